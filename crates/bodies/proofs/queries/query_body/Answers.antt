-- `bodies::queries::query_body` meets its contract: by the kind of the body.
use Rattle.bodies.specs.Bodies.{body_answer}
use Rattle.walk.specs.cylinders.Cylinders.{cylinder_answer}
use Rattle.bodies.proofs.queries.query_body.Goals as goal

pub returns-in-Cylinder : goal.returns-in-Cylinder
unfolding body_answer cylinder_answer
returns-in-Cylinder c = rw c.in-Cylinder.is c.query_cylinder.ensures
