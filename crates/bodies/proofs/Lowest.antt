-- 01: the lowest number that applies is returned, for a body of any kind, with or without a clearance, where the call takes no settings. Kind by
-- kind.
use mathlib.Core.List.{List, []}
use lib.Ieee.{Float}
use Rattle.section.specs.profile.Refusals.{refusal}
use Rattle.section.proofs.profile.Refusals.Calls.{sphere_lowest, box_lowest}
use Rattle.section.proofs.profile.Refusals.Ordered.{Lowest}
use Rattle.walk.proofs.cylinders.Lowest.{cylinder_lowest}
use Rattle.bodies.specs.Bodies.{body_tests}
use Rattle.bodies.specs.declared.shapes.Body.{Body}
use Rattle.bodies.specs.declared.shapes.Body.TheVariants.{Sphere, Box, Cylinder}

pub body_lowest : (s : List Float) (b : Body) (extra : List Float) → Lowest (body_tests s b extra []) (refusal (body_tests s b extra []))
body_lowest s (Sphere b) extra = sphere_lowest s extra b
body_lowest s (Box x) extra = box_lowest s extra x
body_lowest s (Cylinder c) extra = cylinder_lowest s c extra
