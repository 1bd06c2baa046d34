-- `section::boxes::gap::segment_aabb_distance` meets its contract: the sides are sought from the best on.
use mathlib.Core.Path.{◌∙◌}
use Rattle.section.proofs.segments.Held.{segments_held}
use Rattle.section.proofs.ranges.Nearest.{nearest_from}
use Rattle.section.specs.boxes.Boxes.{edge_box}
use Rattle.section.proofs.boxes.gap.segment_aabb_distance.Goals as goal

pub returns-in-Some : goal.returns-in-Some
unfolding edge_box
returns-in-Some c =
    rw (← c.clip_segment.ensures, c.in-Some.is) (rw c.entered.ensures at c.nearer_near.ensures)

pub returns : goal.returns
unfolding edge_box
returns c =
    rw (← c.clip_segment.ensures, c.in_default.is)
    (c.nearest_side.ensures
    ∙ nearest_from _ (λ k. segments_held _ _ _) _ _ c.well_formed.1.1.1.0.1.1.0.1.1.0.1 4)
