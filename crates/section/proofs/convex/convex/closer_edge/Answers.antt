-- `section::convex::convex::closer_edge` meets its contract.
use Rattle.section.specs.segments.Segments.{closest}
use Rattle.section.proofs.convex.convex.closer_edge.Goals as goal

pub returns : goal.returns
unfolding closest
returns c =
    rw (
      c.closer_between.ensures,
      c.closest_point-q.ensures,
      c.end_at.ensures,
      c.vertex_at.ensures,
    )
