-- `capi::lists::lists::bodies_of` meets its contract: the first i bodies are read.
use Prim.Native.Nat.{◌≤◌, ◌*◌}
use mathlib.Core.Path.{◌≡◌}
use lib.ListN.{length, take}
use Rattle.capi.specs.lists.Lists.{bodies_of}
use Rattle.capi.proofs.lists.lists.bodies_of.Given as goal

abbrev pub invariant-loop-i : goal.invariant-loop-i
invariant-loop-i l =
    (l.n ≤ length l.kinds) × (l.n ≤ length l.bodies) × (length l.numbers ≡ 7 * length l.kinds) × (length l.bodies ≡ 64)
    × (take l.i l.bodies ≡ take l.i (bodies_of l.kinds l.numbers))
