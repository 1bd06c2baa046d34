-- A cylinder with its ends swapped, mirrored in x or in y, or turned by half a turn about the spindle.
use Rattle.std.specs.Float.Ieee.{neg}
use Rattle.arith.specs.Vector.{vec}
use Rattle.arith.specs.declared.vector.Vec3.{Vec3}
use Rattle.walk.specs.bands.Band.{bar}
use Rattle.walk.specs.declared.bands.shapes.Cylinder.{Cylinder}

abbrev pub ends_swapped : Cylinder → Cylinder
ends_swapped c = bar c.b c.a c.radius

-- both ends are moved
abbrev pub moved : (Vec3 → Vec3) → Cylinder → Cylinder
moved f c = bar (f c.a) (f c.b) c.radius

abbrev pub mirror_x : Vec3 → Vec3
mirror_x p = vec (neg p.x) p.y p.z

abbrev pub mirror_y : Vec3 → Vec3
mirror_y p = vec p.x (neg p.y) p.z

-- x and y are negated
abbrev pub half_turn : Vec3 → Vec3
half_turn p = vec (neg p.x) (neg p.y) p.z

abbrev pub mirrored_x : Cylinder → Cylinder
mirrored_x = moved mirror_x

abbrev pub mirrored_y : Cylinder → Cylinder
mirrored_y = moved mirror_y

abbrev pub half_turned : Cylinder → Cylinder
half_turned = moved half_turn
