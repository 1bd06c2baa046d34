-- 02's placement of a body at step i of n of a straight move: the offset is start + (end - start)·i/n, with a subtraction, a
-- multiplication, a division and an addition, each rounded once; then it is added to all of the body's positions.
use Rattle.std.specs.Prelude.{ℕ, pos, Float}
use Rattle.std.specs.Float.{binary64}
use Rattle.std.specs.Float.Ieee.{of_int}
use Rattle.arith.specs.F64.{◌⊕◌, ◌⊖◌, ◌⊗◌, ◌⊘◌}
use Rattle.arith.specs.Vector.{vec}
use Rattle.arith.specs.declared.vector.Vec3.{Vec3}
use Rattle.section.specs.profile.Vertices.{ball}
use Rattle.section.specs.boxes.Boxes.{aabb}
use Rattle.walk.specs.bands.Band.{bar}
use Rattle.bodies.specs.declared.shapes.Body.{Body}
use Rattle.bodies.specs.declared.shapes.Body.TheVariants.{Sphere, Box, Cylinder}
use Rattle.bodies.specs.declared.moves.shapes.Travel.{Travel}

-- along one axis
abbrev pub offset : Float → Float → ℕ → ℕ → Float
offset start end n i = start ⊕ ((end ⊖ start) ⊗ of_int binary64 (pos i)) ⊘ of_int binary64 (pos n)

abbrev pub offset_at : Travel → ℕ → Vec3
offset_at v i =
    vec (offset v.start.x v.end.x v.steps i) (offset v.start.y v.end.y v.steps i)
    (offset v.start.z v.end.z v.steps i)

abbrev pub shifted : Vec3 → Vec3 → Vec3
shifted p o = vec (p.x ⊕ o.x) (p.y ⊕ o.y) (p.z ⊕ o.z)

-- a box's z bounds take z and its r bounds take x; of a cylinder both ends are moved
abbrev pub placed : Body → Vec3 → Body
placed (Sphere b) o = Sphere (ball (shifted b.center o) b.radius)
placed (Box b) o = Box (aabb (b.z0 ⊕ o.z) (b.z1 ⊕ o.z) (b.r0 ⊕ o.x) (b.r1 ⊕ o.x))
placed (Cylinder c) o = Cylinder (bar (shifted c.a o) (shifted c.b o) c.radius)

-- the body at step i
abbrev pub placed_at : Body → Travel → ℕ → Body
placed_at b v i = placed b (offset_at v i)
