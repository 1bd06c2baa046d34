-- What each lifted query answers: the whole plain hit and its witness lifted, or the number of the plain query.
use Rattle.std.specs.Prelude.{List, Float}
use Rattle.arith.specs.declared.vector.Vec3.{Vec3}
use Rattle.section.specs.profile.Replies.{Reply, mapped}
use Rattle.section.specs.declared.profile.shapes.CollisionHit.{CollisionHit}
use Rattle.section.specs.declared.profile.shapes.Sphere.{Sphere}
use Rattle.section.specs.Answers.{point_answer, sphere_answer}
use Rattle.walk.specs.settings.Settings.{finest}
use Rattle.walk.specs.bands.Band.{mean}
use Rattle.walk.specs.declared.bands.shapes.Cylinder.{Cylinder}
use Rattle.walk.specs.declared.shapes.CountedHit.{CountedHit}
use Rattle.walk.specs.cylinders.Cylinders.{cylinder_answer}
use Rattle.bodies.specs.lifted.Rule.{lift}
use Rattle.bodies.specs.declared.lifted.shapes.Lifted.{Lifted}

-- a hit and its witness lifted, by the body's middle
abbrev pub lifted_hit : Float → Float → CollisionHit → Lifted CollisionHit
lifted_hit x y h = record { hit = h; witness = lift x y h.witness }

abbrev pub lifted_counted : Float → Float → CountedHit → Lifted CountedHit
lifted_counted x y h = record { hit = h; witness = lift x y h.hit.witness }

-- the middle of a cylinder: 01's mean x and mean y
abbrev pub middle_x : Cylinder → Float
middle_x c = mean c.a.x c.b.x

abbrev pub middle_y : Cylinder → Float
middle_y c = mean c.a.y c.b.y

unfoldable pub lifted_point : List Float → Vec3 → Reply (Lifted CollisionHit)
lifted_point s p = mapped (lifted_hit p.x p.y) (point_answer s p)

unfoldable pub lifted_sphere : List Float → Sphere → Reply (Lifted CollisionHit)
lifted_sphere s b = mapped (lifted_hit b.center.x b.center.y) (sphere_answer s b)

unfoldable pub lifted_cylinder : List Float → Cylinder → Reply (Lifted CountedHit)
lifted_cylinder s c = mapped (lifted_counted (middle_x c) (middle_y c)) (cylinder_answer s c finest)
