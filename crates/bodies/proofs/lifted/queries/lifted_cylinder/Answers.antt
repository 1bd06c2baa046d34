-- `bodies::lifted::queries::lifted_cylinder` meets its contract: the plain answer's at the finest settings, lifted.
use Rattle.section.proofs.profile.Numbered.{handed_on}
use Rattle.bodies.proofs.lifted.Accepted.{cylinder_placed, cylinder_refused}
use Rattle.bodies.proofs.lifted.queries.lifted_cylinder.Goals as goal

pub returns-in_err-hit : goal.returns-in_err-hit
returns-in_err-hit c =
    rw (handed_on c.from_residual.result c.from_residual.ensures)
    (cylinder_refused _ _ (rw c.finest.ensures at c.in_err-hit.ensures))

pub returns : goal.returns
returns c = cylinder_placed _ _ (rw c.finest.ensures at c.in_ok-hit.ensures) c.lift-witness.ensures
