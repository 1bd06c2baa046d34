-- `walk::samples::sampled` meets its contract: a fold.
use native.Mathlib.Omega.{arith}
use Rattle.section.specs.profile.Vertices.{upto}
use Rattle.walk.specs.Walk.{sampled}
use Rattle.section.proofs.profile.Fold.{upto_more, upto_end}
use Rattle.walk.proofs.samples.sampled.Goals as goal

pub loop-i-init : goal.loop-i-init
unfolding upto
loop-i-init c = rw c.infinity.ensures

pub loop-i-preserved : goal.loop-i-preserved
loop-i-preserved c =
    upto_more _ _ _ c.loop-i.invariant (rw (← c.sample_z.ensures) c.sample_at-best.ensures)

pub returns : goal.returns
unfolding sampled
returns c = upto_end _ _ _ c.loop-i.invariant _ (omega arith)
