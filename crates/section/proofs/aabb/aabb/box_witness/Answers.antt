-- `section::aabb::aabb::box_witness` meets its contract: a fold.
use native.Mathlib.Omega.{arith}
use mathlib.Core.Path.{refl}
use Rattle.section.specs.profile.Vertices.{upto}
use Rattle.section.specs.boxes.Boxes.{box_witness}
use Rattle.section.proofs.profile.Fold.{upto_more, upto_end}
use Rattle.section.proofs.aabb.aabb.box_witness.Goals as goal

pub loop-k-init : goal.loop-k-init
unfolding upto
loop-k-init c = refl

pub loop-k-preserved : goal.loop-k-preserved
loop-k-preserved c = upto_more _ _ _ c.loop-k.invariant c.witness_at-at.ensures

pub returns : goal.returns
unfolding box_witness
returns c = upto_end _ _ _ c.loop-k.invariant _ (omega arith)
