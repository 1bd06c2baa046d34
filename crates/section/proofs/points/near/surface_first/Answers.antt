-- `section::points::near::surface_first` meets its contract.
use mathlib.Core.Path.{◌∙◌, ap}
use Rattle.section.specs.points.Points.{surface_step}
use Rattle.section.proofs.points.Surface.{stepped}
use Rattle.section.proofs.points.near.surface_first.Goals as goal

pub returns : goal.returns
returns c =
    stepped _ _ _ _ _ c.edge_at-edge.ensures c.edge_is_surface.ensures c.surface_edge.ensures
    ∙ ap (surface_step _ _ _) (c.legless.ensures ∙ c.no_edge.ensures)
