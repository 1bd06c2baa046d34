-- `section::segments::segment::seg_seg_point_on_first` meets its contract.
use Rattle.section.specs.segments.Segments.{segments}
use Rattle.section.proofs.segments.segment.seg_seg_point_on_first.Goals as goal

pub returns : goal.returns
unfolding segments
returns c =
    rw (
      ← c.dot2.ensures,
      ← c.dot2-2.ensures,
      ← c.dot2-3.ensures,
      ← c.dot2-4.ensures,
      ← c.dot2-5.ensures,
      ← c.closest_places-at.ensures,
    )
    (rw (c.advance-on_second.ensures, c.advance-on_first.ensures) at c.nearer_legs.ensures)
