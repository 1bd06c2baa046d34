-- `section::segments::segment::closest_point` meets its contract.
use Rattle.section.specs.segments.Segments.{closest_point}
use Rattle.section.proofs.segments.segment.closest_point.Goals as goal

pub returns-then-len2 : goal.returns-then-len2
unfolding closest_point
returns-then-len2 c = rw c.if-len2.true

pub returns : goal.returns
unfolding closest_point
returns c = rw (c.if-len2.false, ← c.unit_clamp-t.ensures)
