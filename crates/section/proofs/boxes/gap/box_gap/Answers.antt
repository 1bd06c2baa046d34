-- `section::boxes::gap::box_gap` meets its contract: a search that starts over what it meets anyway finds the same.
use Rattle.section.proofs.ranges.Nearest.{met_first}
use Rattle.section.specs.boxes.Boxes.{box_gap}
use Rattle.section.proofs.boxes.Held.{edge_held}
use Rattle.section.proofs.boxes.gap.box_gap.Goals as goal

pub returns : goal.returns
unfolding box_gap
returns c =
    met_first _ (λ j. edge_held _ _) _ _ _
    c.likely_edge_or-k.ensures _ _ _
    (rw (
      c.on.ensures,
      c.vertex_at.ensures,
      c.infinity.ensures,
    ))
    (rw c.edge_at.ensures at c.first_gap-first.ensures)
    c.start_over-start.ensures
    (rw c.legless.ensures at c.gap_before-before.ensures)
    c.nearer_near-best.ensures c.gap_from-last.ensures
