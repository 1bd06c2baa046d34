-- Bodies as C gives them: kinds, 2 a sphere and 3 a box, as in a store, 4 a cylinder, and seven numbers a body, of which it
-- takes the first. What is turned down of them: 1 where the count of numbers is not seven a body, then 14 for another kind, of
-- at most 64 bodies.
use Rattle.std.specs.Prelude.{ℕ, ◌+◌, ◌*◌, Bool, not, ◌&&◌, ◌||◌, cond, List, [], ◌∷◌, eqb, ltb, leb, Float, length, get_or}
use Rattle.std.specs.Float.{nan}
use Rattle.arith.specs.Vector.{vec}
use Rattle.section.specs.profile.Refusals.{Test, ◌when◌, any_of}
use Rattle.section.specs.profile.Vertices.{ball}
use Rattle.section.specs.declared.profile.shapes.Aabb.{Aabb}
use Rattle.section.specs.declared.profile.shapes.Sphere.{Sphere}
use Rattle.section.specs.boxes.Boxes.{aabb}
use Rattle.walk.specs.bands.Band.{bar}
use Rattle.walk.specs.declared.bands.shapes.Cylinder.{Cylinder}
use Rattle.bodies.specs.declared.shapes.Body.{Body}
use Rattle.bodies.specs.declared.shapes.Body.TheVariants.{Sphere as Ball, Box, Cylinder as Bar}

abbrev pub other_kind : ℕ → Bool
other_kind kind = ltb kind 2 || ltb 4 kind

-- of one body
abbrev pub one_body_tests : ℕ → List Float → List Test
one_body_tests kind numbers = (1 when not (eqb (length numbers) 7)) ∷ (14 when other_kind kind) ∷ []

-- of an assembly
abbrev pub lists_tests : List ℕ → List Float → List Test
lists_tests kinds numbers =
    (1 when not (eqb (length numbers) (7 * length kinds)))
    ∷ (14 when (leb (length kinds) 64 && any_of other_kind kinds)) ∷ []

-- ---- one body, whose numbers begin there: x y z radius; z0 z1 r0 r1; ax ay az bx by bz radius
abbrev number : List Float → ℕ → Float
number l k = get_or l k nan

abbrev pub sphere_at : List Float → ℕ → Sphere
sphere_at l at = ball (vec (number l at) (number l (at + 1)) (number l (at + 2))) (number l (at + 3))

abbrev pub box_at : List Float → ℕ → Aabb
box_at l at = aabb (number l at) (number l (at + 1)) (number l (at + 2)) (number l (at + 3))

abbrev pub cylinder_at : List Float → ℕ → Cylinder
cylinder_at l at =
    bar (vec (number l at) (number l (at + 1)) (number l (at + 2)))
    (vec (number l (at + 3)) (number l (at + 4)) (number l (at + 5))) (number l (at + 6))

abbrev pub body_at : ℕ → List Float → ℕ → Body
body_at kind l at = cond (eqb kind 2) (Ball (sphere_at l at)) (cond (eqb kind 3) (Box (box_at l at)) (Bar (cylinder_at l at)))

-- ---- all of them
unfoldable pub bodies_from : List ℕ → List Float → ℕ → List Body
bodies_from [] l at = []
bodies_from (kind ∷ kinds) l at = body_at kind l at ∷ bodies_from kinds l (at + 7)

abbrev pub bodies_of : List ℕ → List Float → List Body
bodies_of kinds numbers = bodies_from kinds numbers 0

-- how many are read: none of more than 64
abbrev pub front_of : ℕ → ℕ
front_of count = cond (ltb 64 count) 0 count
