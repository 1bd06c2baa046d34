-- What each query answers: a hit, or the number under which it is turned down.
use Rattle.std.specs.Prelude.{List, [], Float}
use Rattle.arith.specs.declared.vector.Vec3.{Vec3}
use Rattle.section.specs.profile.Refusals.{refusal, point_tests, sphere_tests, box_tests, convex_tests}
use Rattle.section.specs.profile.Replies.{Reply, reply}
use Rattle.section.specs.declared.profile.shapes.Aabb.{Aabb}
use Rattle.section.specs.declared.profile.shapes.Sphere.{Sphere}
use Rattle.section.specs.declared.profile.shapes.CollisionHit.{CollisionHit}
use Rattle.section.specs.points.Points.{meridian, point_distance, sphere_distance}
use Rattle.section.specs.boxes.Boxes.{box_distance}
use Rattle.section.specs.convex.Convex.{convex_distance}

unfoldable pub point_answer : List Float → Vec3 → Reply CollisionHit
point_answer s p = reply (refusal (point_tests s p)) (point_distance s (meridian p))

unfoldable pub sphere_answer : List Float → Sphere → Reply CollisionHit
sphere_answer s b = reply (refusal (sphere_tests s b [] [])) (sphere_distance s b)

unfoldable pub box_answer : List Float → Aabb → Reply CollisionHit
box_answer s x = reply (refusal (box_tests s x [] [])) (box_distance s x)

unfoldable pub convex_answer : List Float → List Float → Reply CollisionHit
convex_answer c s = reply (refusal (convex_tests c s [])) (convex_distance c s)
