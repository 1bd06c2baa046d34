-- `section::segments::near::hopeless` meets its contract: both legs reach the best's, or they are too far for it.
use Rattle.arith.proofs.Laws.OrderHeld.{true→T}
use Rattle.section.proofs.segments.Legs.{hopeless_legs}
use Rattle.section.proofs.segments.near.hopeless.Goals as goal

pub returns-then-r-best : goal.returns-then-r-best
returns-then-r-best c =
    λ t. hopeless_legs _ _ _ (true→T c.well_formed.0.1) (true→T c.well_formed.1.0.1)
    c.well_formed.1.1.0.1.1.0.1.1.0.1 _ _ (true→T c.well_formed.1.1.0.1.1.1.0.1)
    (true→T c.well_formed.1.1.0.1.1.1.1.0.1) c.if-z-best.true c.if-r-best.true c.args.best.legs
