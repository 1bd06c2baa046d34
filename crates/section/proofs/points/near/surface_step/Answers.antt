-- `section::points::near::surface_step` meets its contract.
use Rattle.section.proofs.points.Surface.{stepped, unmoved}
use Rattle.section.proofs.points.near.surface_step.Goals as goal

pub returns-then-passed_over : goal.returns-then-passed_over
returns-then-passed_over c = unmoved _ _ _ _ c.edge_at-edge.ensures (c.passed_over.ensures c.if-passed_over.true)

pub returns : goal.returns
returns c = stepped _ _ _ _ _ c.edge_at-edge.ensures c.edge_is_surface.ensures c.surface_edge.ensures
