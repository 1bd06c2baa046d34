-- `section::convex::gap::convex_gap` meets its contract: a search that starts over some pair, in a window, finds the same.
use Rattle.section.proofs.convex.Window.{gap_found, window_of}
use Rattle.section.proofs.convex.gap.convex_gap.Goals as goal

pub convex_rows-requires : goal.convex_rows-requires
convex_rows-requires c =
    window_of _ _ _ _ _ _ c.hull_of-hull.ensures c.near_from-from.ensures c.near_to-to.ensures

pub returns : goal.returns
returns c =
    gap_found _ _ (rw (c.on.ensures, c.vertex_at.ensures, c.infinity.ensures))
    c.likely_pair-first.ensures c.start_over-start.ensures
    c.convex_rows.ensures
