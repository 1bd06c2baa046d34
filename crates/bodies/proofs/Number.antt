-- Where nothing is turned down, a body's distance is no NaN, whatever the settings: by demand 1, kind by kind.
use mathlib.Core.Bool.{not}
use mathlib.Core.List.{List, []}
use mathlib.Core.Path.{◌≡◌}
use lib.Dec.{T}
use lib.Ieee.{Float, is_nan}
use Rattle.arith.proofs.Laws.Extended.{finite_not_nan}
use Rattle.section.specs.profile.Refusals.{refusal}
use Rattle.section.proofs.Demand.Queries.{sphere_bounded, box_bounded}
use Rattle.walk.specs.settings.Settings.{settings_tests}
use Rattle.walk.specs.declared.settings.shapes.Settings.{Settings}
use Rattle.walk.proofs.cylinders.Cover.Accepted.{settings_accepted}
use Rattle.walk.proofs.cylinders.Demand.Cylinders.{cylinder_bounded}
use Rattle.bodies.specs.Bodies.{body_tests, body_distance}
use Rattle.bodies.specs.declared.shapes.Body.{Body}
use Rattle.bodies.specs.declared.shapes.Body.TheVariants.{Sphere, Box, Cylinder}

pub body_number : (s : List Float) (b : Body) (t : Settings) → refusal (body_tests s b [] (settings_tests t)) ≡ 0
    → T (not (is_nan (body_distance s b t).hit.distance))
body_number s (Sphere b) t e = (sphere_bounded s [] (settings_tests t) b tt e).number
body_number s (Box x) t e = finite_not_nan _ (box_bounded s [] (settings_tests t) x tt e).distance.ends
body_number s (Cylinder c) t e = finite_not_nan _ (cylinder_bounded s c t e (settings_accepted s c t e)).distance.ends
