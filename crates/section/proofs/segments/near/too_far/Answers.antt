-- `section::segments::near::too_far` meets its contract: a leg, or the squares of both, reach it.
use Rattle.arith.proofs.Laws.HypotSquares.{margin}
use Rattle.arith.proofs.Laws.OrderHeld.{true→T}
use Rattle.section.proofs.segments.Legs.{hopeless_r, hopeless_squares, hopeless_z}
use Rattle.section.proofs.segments.near.too_far.Goals as goal

pub returns-then-z-least : goal.returns-then-z-least
returns-then-z-least c =
    λ t. hopeless_z _ _ _ (true→T c.well_formed.0.1) (true→T c.well_formed.1.0.1) c.well_formed.1.1.0.1 c.if-z-least.true

pub returns-then-r-least : goal.returns-then-r-least
returns-then-r-least c =
    λ t. hopeless_r _ _ _
    (hopeless_z _ _ _ (true→T c.well_formed.1.0.1) (true→T c.well_formed.0.1) c.well_formed.1.1.0.1 c.if-r-least.true)

pub returns : goal.returns
returns c =
    λ t. hopeless_squares _ _ _ (true→T c.well_formed.0.1) (true→T c.well_formed.1.0.1) c.well_formed.1.1.0.1
    c.requires.0 c.requires.1 _ _ margin t
