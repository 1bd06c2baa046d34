-- What is turned down: a call's tests in the order in which it makes them, each with its number in 01's table. The first that is
-- true gives the number, 0 for none.
use Rattle.std.specs.Prelude.{ℕ, ◌%◌, Bool, false, not, ◌||◌, cond, List, [], ◌∷◌, ◌++◌, length, eqb, ltb, Float}
use Rattle.std.specs.Float.Ieee.{neg}
use Rattle.arith.specs.F64.{◌≺◌, 𝟘, e_9, limit}
use Rattle.arith.specs.Num.{abs, is_finite}
use Rattle.section.specs.profile.Vertices.{count, vertex_at, any}
use Rattle.section.specs.declared.profile.shapes.Aabb.{Aabb}
use Rattle.section.specs.declared.profile.shapes.Sphere.{Sphere}
use Rattle.arith.specs.declared.vector.Vec3.{Vec3}

infix 40 ◌when◌
-- a number of the table, and whether it applies
pub record Test : Type 0 where
  pub number : ℕ
  pub applies : Bool

abbrev pub ◌when◌ : ℕ → Bool → Test
n when b = record { number = n; applies = b }

-- the number of the first test that is true, 0 for none
unfoldable pub refusal : List Test → ℕ
refusal [] = 0
refusal (t ∷ ts) = cond t.applies t.number (refusal ts)

-- ---- the parts of which a call's list is made

-- the test is true of an element
unfoldable pub any_of : {A : Type 0} → (A → Bool) → List A → Bool
any_of test [] = false
any_of test (x ∷ xs) = test x || any_of test xs

abbrev pub odd : List Float → Bool
odd l = eqb (length l % 2) 1

-- fewer than least, or more than most, vertices or points
abbrev pub fewer : ℕ → List Float → Bool
fewer least l = ltb (count l) least

abbrev pub more : ℕ → List Float → Bool
more most l = ltb most (count l)

abbrev pub not_finite : Float → Bool
not_finite x = not (is_finite x)

abbrev pub over_limit : Float → Bool
over_limit x = limit ≺ abs x

-- over every list, of least to most vertices or points
abbrev pub shape_tests : ℕ → ℕ → List (List Float) → List Test
shape_tests least most lists =
    (1 when any_of odd lists) ∷ (2 when any_of (fewer least) lists) ∷ (3 when any_of (more most) lists) ∷ []

-- over all numbers that are given
abbrev pub number_tests : List Float → List Test
number_tests given = (4 when any_of not_finite given) ∷ (5 when any_of over_limit given) ∷ []

-- one list alone
abbrev pub list_tests : ℕ → ℕ → List Float → List Test
list_tests least most l = shape_tests least most (l ∷ []) ++ number_tests l

-- lists of 3 to 256 vertices, and all numbers that are given
abbrev pub given_tests : List (List Float) → List Float → List Test
given_tests lists given = shape_tests 3 256 lists ++ number_tests given

-- a vertex, or a point of a builder, has a radius below -1e-9
unfoldable pub any_below_axis : List Float → Bool
any_below_axis s = any (λ k. (vertex_at s k).r ≺ neg e_9) (count s)

-- the section's own
abbrev pub axis_tests : List Float → List Test
axis_tests s = (6 when any_below_axis s) ∷ []

-- the body's own
abbrev pub radius_tests : Float → List Test
radius_tests radius = (9 when radius ≺ 𝟘) ∷ []

abbrev pub bounds_tests : Aabb → List Test
bounds_tests x = (10 when ((x.z1 ≺ x.z0) || (x.r1 ≺ x.r0))) ∷ []

-- ---- the calls: a section, a body, and more numbers that are given with them

-- then the tests of the call's settings, then the section's own, then the body's
abbrev pub beside_tests : List Float → List Float → List Float → List Test → List Test → List Test
beside_tests s numbers extra settings own = given_tests (s ∷ []) (s ++ (numbers ++ extra)) ++ (settings ++ (axis_tests s ++ own))

abbrev pub point_numbers : Vec3 → List Float
point_numbers p = p.x ∷ p.y ∷ p.z ∷ []

abbrev pub sphere_numbers : Sphere → List Float
sphere_numbers b = point_numbers b.center ++ (b.radius ∷ [])

abbrev pub box_numbers : Aabb → List Float
box_numbers x = x.z0 ∷ x.z1 ∷ x.r0 ∷ x.r1 ∷ []

abbrev pub point_tests : List Float → Vec3 → List Test
point_tests s p = beside_tests s (point_numbers p) [] [] []

abbrev pub sphere_tests : List Float → Sphere → List Float → List Test → List Test
sphere_tests s b extra settings = beside_tests s (sphere_numbers b) extra settings (radius_tests b.radius)

abbrev pub box_tests : List Float → Aabb → List Float → List Test → List Test
box_tests s x extra settings = beside_tests s (box_numbers x) extra settings (bounds_tests x)

-- a convex body may lie below the axis
abbrev pub convex_tests : List Float → List Float → List Float → List Test
convex_tests c s extra = given_tests (c ∷ s ∷ []) (c ++ (s ++ extra)) ++ axis_tests s
