-- `section::points::near::surface_rest` meets its contract: a search that starts over what it meets anyway finds the same.
use mathlib.Core.Path.{subst, sym}
use Rattle.section.specs.ranges.Search.{StartOver}
use Rattle.section.proofs.points.Surface.{surface_met_first}
use Rattle.section.proofs.points.near.surface_rest.Goals as goal

pub returns : goal.returns
returns c =
    surface_met_first _ _ _ c.no_edge.ensures _ c.requires.0 _ _
    c.requires.1
    (subst (StartOver _ _) (sym c.legless-start.ensures)
    c.start_over.ensures) c.surface_from-before.ensures
    c.nearer_near-best.ensures c.surface_from-found.ensures
