-- `section::points::near::surface_near` meets its contract.
use Rattle.section.proofs.points.Surface.{surface_in_turn}
use Rattle.section.proofs.points.near.surface_near.Goals as goal

pub returns-then-n-lt8 : goal.returns-then-n-lt8
returns-then-n-lt8 c = surface_in_turn _ _ _ c.no_edge.ensures c.surface_few.ensures
