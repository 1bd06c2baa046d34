-- `section::convex::gap::likely_pair` meets its contract.
use Rattle.section.specs.convex.Steps.{of_pair}
use Rattle.section.proofs.convex.gap.likely_pair.Goals as goal

pub returns : goal.returns
returns c =
    of_pair _ _ c.likely_edge_at-i.ensures c.likely_edge-j.ensures
    (rw (
      ← c.edge_at.ensures,
      ← c.vertex_at-2.ensures,
      ← c.end_at.ensures,
    )
    (rw c.legless.ensures at c.seg_seg_point_on_first-found.ensures))
