-- `section::signed::distance::signed_distance_at` meets its contract.
use Rattle.section.specs.points.Points.{point_distance}
use Rattle.section.proofs.signed.distance.signed_distance_at.Goals as goal

pub returns-then-best : goal.returns-then-best
unfolding point_distance
returns-then-best c =
    rw (
      ← c.surface_near-near.ensures,
      ← c.is_finite.ensures,
      c.if-is_finite.true,
      c.if-best.true,
    )

pub returns-then-in_section : goal.returns-then-in_section
unfolding point_distance
returns-then-in_section c =
    rw (
      ← c.surface_near-near.ensures,
      ← c.is_finite.ensures,
      c.if-is_finite.true,
      c.if-best.false,
      ← c.in_section.ensures,
      c.if-in_section.true,
    )

pub returns-then-is_finite : goal.returns-then-is_finite
unfolding point_distance
returns-then-is_finite c =
    rw (
      ← c.surface_near-near.ensures,
      ← c.is_finite.ensures,
      c.if-is_finite.true,
      c.if-best.false,
      ← c.in_section.ensures,
      c.if-in_section.false,
    )

pub returns : goal.returns
unfolding point_distance
returns c =
    rw (
      ← c.surface_near-near.ensures,
      ← c.is_finite.ensures,
      c.if-is_finite.false,
      ← c.infinity.ensures,
    )
