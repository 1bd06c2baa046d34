-- `section::points::near::surface_few` meets its contract: a fold.
use mathlib.Core.Path.{refl}
use Rattle.section.specs.profile.Vertices.{upto}
use Rattle.section.proofs.profile.Fold.{upto_more}
use Rattle.section.proofs.points.Surface.{stepped}
use Rattle.section.proofs.points.near.surface_few.Goals as goal

pub loop-k-init : goal.loop-k-init
unfolding upto
loop-k-init c = refl

pub loop-k-preserved : goal.loop-k-preserved
loop-k-preserved c =
    upto_more _ _ _ c.loop-k.invariant
    (stepped _ _ _ _ _ c.edge_at-edge.ensures c.edge_is_surface.ensures c.surface_edge-best.ensures)
