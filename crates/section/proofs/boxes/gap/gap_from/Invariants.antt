-- `section::boxes::gap::gap_from` meets its contract: a fold, from whatever start.
use Rattle.section.specs.boxes.Steps.{GapFrom}
use Rattle.section.proofs.boxes.gap.gap_from.Given as goal

abbrev pub invariant-loop-k : goal.invariant-loop-k
invariant-loop-k l = GapFrom l.s l.x.aabb l.from l.k l.initial.best.hit l.best.hit
