-- `section::signed::distance::point_inside` meets its contract: a fold.
use native.Mathlib.Omega.{arith}
use mathlib.Core.Path.{refl}
use Rattle.section.specs.profile.Vertices.{upto}
use Rattle.section.specs.points.Points.{point_inside}
use Rattle.section.proofs.profile.Fold.{upto_more, upto_end}
use Rattle.section.proofs.signed.distance.point_inside.Goals as goal

pub loop-k-init : goal.loop-k-init
unfolding upto
loop-k-init c = refl

pub loop-k-preserved : goal.loop-k-preserved
loop-k-preserved c = upto_more _ _ _ c.loop-k.invariant c.odd_step-odd.ensures

pub returns : goal.returns
unfolding point_inside
returns c = upto_end _ _ _ c.loop-k.invariant _ (omega arith)
