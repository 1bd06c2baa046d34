-- `section::boxes::gap::gap_from` meets its contract: a fold, from whatever start.
use Rattle.section.proofs.profile.Fold.{upto_more}
use Rattle.section.proofs.boxes.gap.gap_from.Goals as goal

pub loop-k-preserved-then-passed_over : goal.loop-k-preserved-then-passed_over
loop-k-preserved-then-passed_over c =
    λ a e. upto_more _ _ _ (c.loop-k.invariant a e)
    (rw (← c.edge_at.ensures, c.passed_over.ensures c.if-passed_over.true))

pub loop-k-preserved : goal.loop-k-preserved
loop-k-preserved c = λ a e. upto_more _ _ _ (c.loop-k.invariant a e) c.gap_at-best.ensures
