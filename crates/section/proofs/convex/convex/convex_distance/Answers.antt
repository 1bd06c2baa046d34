-- `section::convex::convex::convex_distance` meets its contract.
use Rattle.section.specs.convex.Convex.{convex_distance}
use Rattle.section.proofs.points.Asked.{result_asked}
use Rattle.section.proofs.convex.convex.convex_distance.Goals as goal

pub returns : goal.returns
unfolding convex_distance
returns c =
    rw (
      c.result_of.ensures,
      c.convex_overlaps-overlaps.ensures,
      result_asked,
      c.convex_penetration-deep.ensures,
      c.convex_gap-gap.ensures,
    )
