-- 02's tilt: the distance that a verdict judges. A cylinder's axis may lean, so that its ends stand off the middle line; spheres
-- and boxes are judged by their distance as it is.
use Rattle.std.specs.Prelude.{Float}
use Rattle.std.specs.Float.{binary64}
use Rattle.arith.specs.F64.{◌⊖◌, ◌⊗◌, ½}
use Rattle.arith.specs.roots.Roots.{hypot}
use Rattle.walk.specs.bands.Axis.{axis}
use Rattle.walk.specs.declared.bands.shapes.Axis.{Axis}
use Rattle.walk.specs.declared.bands.shapes.Axis.TheVariants.{Axial, AlongX, AlongY, Neither}
use Rattle.walk.specs.declared.bands.shapes.Cylinder.{Cylinder}
use Rattle.bodies.specs.declared.shapes.Body.{Body}
use Rattle.bodies.specs.declared.shapes.Body.TheVariants.{Sphere, Box, Cylinder as Bar}

-- how far one end stands from the other, seen along the axis; what is neither axial nor radial is turned down
abbrev pub tilt_length : Axis → Cylinder → Float
tilt_length Axial c = hypot binary64 (c.a.x ⊖ c.b.x) (c.a.y ⊖ c.b.y)
tilt_length AlongX c = hypot binary64 (c.a.y ⊖ c.b.y) (c.a.z ⊖ c.b.z)
tilt_length AlongY c = hypot binary64 (c.a.x ⊖ c.b.x) (c.a.z ⊖ c.b.z)
tilt_length Neither c = hypot binary64 (c.a.x ⊖ c.b.x) (c.a.y ⊖ c.b.y)

-- distance less half of that length
abbrev pub less_tilt : Axis → Cylinder → Float → Float
less_tilt axis c distance = distance ⊖ tilt_length axis c ⊗ ½

-- of a body whose distance this is
abbrev pub judged_distance : Body → Float → Float
judged_distance (Sphere b) distance = distance
judged_distance (Box x) distance = distance
judged_distance (Bar c) distance = less_tilt (axis c) c distance
