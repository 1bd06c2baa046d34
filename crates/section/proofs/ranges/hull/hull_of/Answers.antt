-- `section::ranges::hull::hull_of` meets its contract: a fold, and what each step learnt of its vertex.
use native.Mathlib.Omega.{arith}
use Rattle.section.specs.profile.Vertices.{upto}
use Rattle.section.proofs.profile.Fold.{upto_more}
use Rattle.section.proofs.ranges.HeldEdges.{one_more}
use Rattle.section.proofs.ranges.hull.hull_of.Goals as goal

pub loop-k-init : goal.loop-k-init
unfolding upto
loop-k-init c =
    (rw c.infinity-top.ensures, λ i l. let e : ⊥ = omega arith in absurd e)

pub loop-k-preserved : goal.loop-k-preserved
loop-k-preserved c =
    let inv = c.loop-k.invariant in
    (upto_more _ _ _ inv.0 c.wider_at-hull.ensures.0, one_more _ _ inv.1 c.wider_at-hull.ensures.1)
