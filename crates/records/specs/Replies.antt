-- What the C interface over records takes and gives: a body as its numbers, and an answer as one record.
use Rattle.std.specs.Prelude.{false}
use Rattle.arith.specs.F64.{𝟘}
use Rattle.arith.specs.Vector.{vec}
use Rattle.arith.specs.declared.vector.Vec3.{Vec3}
use Rattle.section.specs.profile.Vertices.{ball}
use Rattle.section.specs.boxes.Boxes.{aabb}
use Rattle.walk.specs.bands.Band.{bar}
use Rattle.section.specs.profile.Replies.{Reply, value, turned_down}
use Rattle.section.specs.declared.profile.shapes.Aabb.{Aabb}
use Rattle.section.specs.declared.profile.shapes.CollisionHit.{CollisionHit}
use Rattle.section.specs.declared.profile.shapes.Sphere.{Sphere}
use Rattle.walk.specs.declared.bands.shapes.Cylinder.{Cylinder}
use Rattle.walk.specs.declared.shapes.CountedHit.{CountedHit}
use Rattle.records.specs.declared.replies.Ball.{Ball}
use Rattle.records.specs.declared.replies.Bar.{Bar}
use Rattle.records.specs.declared.replies.Bounds.{Bounds}
use Rattle.records.specs.declared.replies.CylinderReply.{CylinderReply}
use Rattle.records.specs.declared.replies.Place.{Place}
use Rattle.records.specs.declared.replies.Reply as c

abbrev pub point_of : Place → Vec3
point_of x = vec x.x x.y x.z

abbrev pub sphere_of : Ball → Sphere
sphere_of x = ball (vec x.x x.y x.z) x.radius

abbrev pub box_of : Bounds → Aabb
box_of x = aabb x.z0 x.z1 x.r0 x.r1

abbrev pub cylinder_of : Bar → Cylinder
cylinder_of x = bar (vec x.ax x.ay x.az) (vec x.bx x.by x.bz) x.radius

-- the hit and the number 0, or the number and nothing else
abbrev pub c_reply : Reply CollisionHit → c.Reply
c_reply (value h) =
    record {
      distance = h.distance;
      witness_z = h.witness.z;
      witness_radius = h.witness.r;
      edge = h.witness.edge;
      number = 0;
    }
c_reply (turned_down n) = record { distance = 𝟘; witness_z = 𝟘; witness_radius = 𝟘; edge = 0; number = n }

abbrev pub c_cylinder_reply : Reply CountedHit → CylinderReply
c_cylinder_reply (value h) = record {
  distance = h.hit.distance;
  witness_z = h.hit.witness.z;
  witness_radius = h.hit.witness.r;
  edge = h.hit.witness.edge;
  boxes = h.boxes;
  waiting = h.waiting;
  number = 0;
  cut = h.cut;
}
c_cylinder_reply (turned_down n) = record {
  distance = 𝟘;
  witness_z = 𝟘;
  witness_radius = 𝟘;
  edge = 0;
  boxes = 0;
  waiting = 0;
  number = n;
  cut = false;
}
