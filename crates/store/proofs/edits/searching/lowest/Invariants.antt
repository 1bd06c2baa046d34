-- `store::edits::searching::lowest` meets its contract: the search goes on from m as it would from 0, by the marks.
use Prim.Native.Nat.{◌-◌}
use mathlib.Core.Path.{◌≡◌}
use Rattle.store.specs.edits.Written.{lowest_from}
use Rattle.store.specs.edits.Steps.{Marked}
use Rattle.store.proofs.edits.searching.lowest.Given as goal

abbrev pub invariant-loop-m : goal.invariant-loop-m
invariant-loop-m l =
    (lowest_from l.order l.count 0 ≡ lowest_from l.order (l.count - l.m) l.m) × Marked l.order l.marks
