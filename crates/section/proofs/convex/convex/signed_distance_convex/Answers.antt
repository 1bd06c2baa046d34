-- `section::convex::convex::signed_distance_convex` meets its contract.
use Rattle.section.specs.convex.Convex.{signed_distance_convex}
use Rattle.section.proofs.convex.convex.signed_distance_convex.Goals as goal

pub returns-then-not-is_finite : goal.returns-then-not-is_finite
unfolding signed_distance_convex
returns-then-not-is_finite c = rw (← c.convex_near-best.ensures, ← c.is_finite.ensures, c.if-not-is_finite.true)

pub returns-then-best : goal.returns-then-best
unfolding signed_distance_convex
returns-then-best c =
    rw (
      ← c.convex_near-best.ensures,
      ← c.is_finite.ensures,
      c.if-not-is_finite.false,
      c.if-best.true,
    )

pub returns-then-point_in_convex : goal.returns-then-point_in_convex
unfolding signed_distance_convex
returns-then-point_in_convex c =
    rw (
      ← c.convex_near-best.ensures,
      ← c.is_finite.ensures,
      c.if-not-is_finite.false,
      c.if-best.false,
      ← c.point_in_convex.ensures,
      c.if-point_in_convex.true,
    )

pub returns-else-point_in_convex : goal.returns-else-point_in_convex
unfolding signed_distance_convex
returns-else-point_in_convex c =
    rw (
      ← c.convex_near-best.ensures,
      ← c.is_finite.ensures,
      c.if-not-is_finite.false,
      c.if-best.false,
      ← c.point_in_convex.ensures,
      c.if-point_in_convex.false,
    )
