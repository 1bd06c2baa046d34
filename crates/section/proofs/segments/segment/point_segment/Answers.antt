-- `section::segments::segment::point_segment` meets its contract.
use Rattle.section.specs.segments.Segments.{closest}
use Rattle.section.proofs.segments.segment.point_segment.Goals as goal

pub returns : goal.returns
unfolding closest
returns c = rw (← c.closest_point-q.ensures) c.nearer_legs.ensures
