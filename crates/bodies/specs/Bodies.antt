-- One body: its numbers, its own tests, its distance and what its query answers.
use Rattle.std.specs.Prelude.{ℕ, false, List, [], ◌++◌, Float}
use Rattle.section.specs.profile.Refusals.{Test, refusal, sphere_numbers, box_numbers, number_tests, radius_tests, bounds_tests, beside_tests}
use Rattle.section.specs.profile.Replies.{Reply, reply}
use Rattle.section.specs.declared.profile.shapes.CollisionHit.{CollisionHit}
use Rattle.section.specs.points.Points.{sphere_distance}
use Rattle.section.specs.boxes.Boxes.{box_distance}
use Rattle.section.specs.Demand.{Bounded, BoundedOffAxis}
use Rattle.walk.specs.bands.Axis.{axis}
use Rattle.walk.specs.settings.Settings.{settings_tests}
use Rattle.walk.specs.declared.settings.shapes.Settings.{Settings}
use Rattle.walk.specs.declared.shapes.CountedHit.{CountedHit}
use Rattle.walk.specs.cylinders.Cylinders.{cylinder_numbers, cylinder_own, cylinder_distance}
use Rattle.walk.specs.cylinders.Promised.{Promised}
use Rattle.bodies.specs.declared.shapes.Body.{Body}
use Rattle.bodies.specs.declared.shapes.Body.TheVariants.{Sphere, Box, Cylinder}

abbrev pub body_numbers : Body → List Float
body_numbers (Sphere b) = sphere_numbers b
body_numbers (Box x) = box_numbers x
body_numbers (Cylinder c) = cylinder_numbers c

abbrev pub body_own : Body → List Test
body_own (Sphere b) = radius_tests b.radius
body_own (Box x) = bounds_tests x
body_own (Cylinder c) = cylinder_own c.radius (axis c)

-- the body alone, whatever stands beside it
abbrev pub alone_tests : Body → List Test
alone_tests b = number_tests (body_numbers b) ++ body_own b

-- beside a section, with more numbers that are given, and tests of settings
abbrev pub body_tests : List Float → Body → List Float → List Test → List Test
body_tests s b extra settings = beside_tests s (body_numbers b) extra settings (body_own b)

-- n boxes, nothing waiting, uncut
abbrev pub boxes_only : ℕ → CollisionHit → CountedHit
boxes_only n h = record { hit = h; boxes = n; waiting = 0; cut = false }

-- a sphere counts no box, a box one, a cylinder those of its axis
abbrev pub body_distance : List Float → Body → Settings → CountedHit
body_distance s (Sphere b) t = boxes_only 0 (sphere_distance s b)
body_distance s (Box x) t = boxes_only 1 (box_distance s x)
body_distance s (Cylinder c) t = cylinder_distance s c t

-- bad settings are turned down beside every kind of body
unfoldable pub body_answer : List Float → Body → Settings → Reply CountedHit
body_answer s b t = reply (refusal (body_tests s b [] (settings_tests t))) (body_distance s b t)

-- demands 1 and 3 of a hit
abbrev pub BodyPromised : List Float → Body → Settings → CountedHit → Type 0
BodyPromised s (Sphere b) t h = BoundedOffAxis s h.hit
BodyPromised s (Box x) t h = Bounded s h.hit
BodyPromised s (Cylinder c) t h = Promised s c t h
