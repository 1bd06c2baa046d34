-- `section::signed::distance::inside_axis_edge` meets its contract.
use Rattle.section.specs.points.Points.{inside_axis_edge}
use Rattle.section.proofs.signed.distance.inside_axis_edge.Goals as goal

pub returns-then-edge_is_surface : goal.returns-then-edge_is_surface
unfolding inside_axis_edge
returns-then-edge_is_surface c = rw (← c.edge_is_surface.ensures, c.if-edge_is_surface.true)

pub returns-then-z-z0 : goal.returns-then-z-z0
unfolding inside_axis_edge
returns-then-z-z0 c =
    rw (
      ← c.edge_is_surface.ensures,
      c.if-edge_is_surface.false,
      ← c.min-z0.ensures,
      ← c.max-z1.ensures,
      c.if-z-z0.true,
    )

pub returns-else-z-z0 : goal.returns-else-z-z0
unfolding inside_axis_edge
returns-else-z-z0 c =
    rw (
      ← c.edge_is_surface.ensures,
      c.if-edge_is_surface.false,
      ← c.min-z0.ensures,
      ← c.max-z1.ensures,
      c.if-z-z0.false,
    )
