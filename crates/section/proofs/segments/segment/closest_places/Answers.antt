-- `section::segments::segment::closest_places` meets its contract.
use Rattle.section.specs.segments.Segments.{closest_places}
use Rattle.section.proofs.segments.segment.closest_places.Goals as goal

pub returns-then-e : goal.returns-then-e
unfolding closest_places
returns-then-e c = rw (c.if-a.true, c.if-e.true)

pub returns-then-a : goal.returns-then-a
unfolding closest_places
returns-then-a c = rw (c.if-a.true, c.if-e.false, ← c.unit_clamp.ensures)

pub returns-then-e-2 : goal.returns-then-e-2
unfolding closest_places
returns-then-e-2 c = rw (c.if-a.false, c.if-e-2.true, ← c.at_first_end.ensures)

pub returns-then-t : goal.returns-then-t
unfolding closest_places
returns-then-t c =
    rw (
      c.if-a.false,
      c.if-e-2.false,
      ← c.start_place-s.ensures,
      c.if-t.true,
      ← c.at_first_end-then-t.ensures,
    )

pub returns-then-t-2 : goal.returns-then-t-2
unfolding closest_places
returns-then-t-2 c =
    rw (
      c.if-a.false,
      c.if-e-2.false,
      ← c.start_place-s.ensures,
      c.if-t.false,
      c.if-t-2.true,
      ← c.unit_clamp-then-t-2.ensures,
    )

pub returns : goal.returns
unfolding closest_places
returns c =
    rw (
      c.if-a.false,
      c.if-e-2.false,
      ← c.start_place-s.ensures,
      c.if-t.false,
      c.if-t-2.false,
    )
