-- `section::refusals::fine::section_fine` meets its contract: the vertices tried so far are fine.
use Prim.Native.Nat.{◌*◌}
use mathlib.Core.Bool.{false}
use mathlib.Core.Path.{◌≡◌}
use lib.Ieee.{neg}
use lib.ListN.{drop}
use Rattle.arith.specs.F64.{◌≺◌, e_9}
use Rattle.section.specs.profile.Refusals.{any_of}
use Rattle.section.specs.profile.Steps.{beyond_limit}
use Rattle.section.specs.profile.Vertices.{any, vertex_at}
use Rattle.section.proofs.refusals.fine.section_fine.Given as goal

abbrev pub invariant-loop-k : goal.invariant-loop-k
invariant-loop-k l =
    (any_of beyond_limit (drop (l.k * 2) l.s) ≡ any_of beyond_limit l.s) × (any (λ j. (vertex_at l.s j).r ≺ neg e_9) l.k ≡ false)
