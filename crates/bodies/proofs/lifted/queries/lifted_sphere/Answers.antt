-- `bodies::lifted::queries::lifted_sphere` meets its contract: the plain answer's, lifted.
use Rattle.section.proofs.profile.Numbered.{handed_on}
use Rattle.bodies.proofs.lifted.Accepted.{sphere_placed, sphere_refused}
use Rattle.bodies.proofs.lifted.queries.lifted_sphere.Goals as goal

pub returns-in_err-hit : goal.returns-in_err-hit
returns-in_err-hit c =
    rw (handed_on c.from_residual.result c.from_residual.ensures)
    (sphere_refused _ _ c.in_err-hit.ensures)

pub returns : goal.returns
returns c = sphere_placed _ _ c.in_ok-hit.ensures c.lift-witness.ensures
