-- `section::probes::reach::between` meets its contract.
use Rattle.arith.proofs.Laws.OrderHeld.{true→T}
use Rattle.section.proofs.probes.Radii.{spans}
use Rattle.section.proofs.probes.reach.between.Goals as goal

pub returns-then-lo-x : goal.returns-then-lo-x
returns-then-lo-x c =
    λ t. spans _ _ _ (true→T c.well_formed.0.1) (true→T c.well_formed.1.0.1) (true→T c.well_formed.1.1.0.1)
    c.if-lo-x.true t
