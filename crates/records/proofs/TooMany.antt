-- More than 256 vertices are turned down under number 3, by the definitions too: the count of their numbers is even and not small.
-- By the table's first three tests.
use Prim.Native.Nat.{◌*◌, ◌%◌, ◌<◌}
use native.Mathlib.Omega.{arith}
use mathlib.Core.Bool.{true, false}
use mathlib.Core.List.{List, [], ◌∷◌, ◌++◌}
use mathlib.Core.Path.{◌≡◌, refl, ap}
use lib.ListN.{length}
use lib.Ieee.{Float}
use borrow.Author.Tests.{ne_eqb, le-ltb, lt-ltb}
use Rattle.arith.specs.declared.vector.Vec3.{Vec3}
use Rattle.section.specs.Answers.{point_answer, sphere_answer, box_answer}
use Rattle.section.specs.profile.Refusals.{Test, refusal, any_of, odd, fewer, more, given_tests}
use Rattle.section.specs.profile.Replies.{turned_down, Answers}
use Rattle.section.specs.profile.Vertices.{count}
use Rattle.section.specs.declared.profile.shapes.Aabb.{Aabb}
use Rattle.section.specs.declared.profile.shapes.Sphere.{Sphere}
use Rattle.section.specs.declared.profile.shapes.Vertex.{Vertex}
use Rattle.walk.specs.cylinders.Cylinders.{cylinder_answer}
use Rattle.walk.specs.declared.bands.shapes.Cylinder.{Cylinder}
use Rattle.records.specs.Flattened.{flattened}
use Rattle.records.specs.Replies.{point_of, sphere_of, box_of, cylinder_of, c_reply, c_cylinder_reply}
use Rattle.records.specs.declared.replies.Ball.{Ball}
use Rattle.records.specs.declared.replies.Bar.{Bar}
use Rattle.records.specs.declared.replies.Bounds.{Bounds}
use Rattle.records.specs.declared.replies.Place.{Place}
use Rattle.section.specs.Demand.{Bounded, BoundedOffAxis}
use Rattle.walk.specs.cylinders.Promised.{Promised}
use Rattle.walk.specs.settings.Settings.{finest}

flattened_length : (xs : List Vertex) → length (flattened xs) ≡ 2 * length xs
unfolding flattened
flattened_length [] = refl
flattened_length (x ∷ xs) = let e : length (flattened xs) ≡ 2 * length xs = flattened_length xs in omega arith

module _ (xs : List Vertex) (h : 256 < length xs) where
  number_three : (given : List Float) (own : List Test) → refusal (given_tests (flattened xs ∷ []) given ++ own) ≡ 3
  unfolding refusal any_of
  number_three given own =
      let e : length (flattened xs) ≡ 2 * length xs = flattened_length xs in
      let even : odd (flattened xs) ≡ false = ne_eqb (length (flattened xs) % 2) 1 (λ o. omega arith) in
      let enough : fewer 3 (flattened xs) ≡ false = le-ltb (count (flattened xs)) 3 (omega arith) in
      let many : more 256 (flattened xs) ≡ true = lt-ltb 256 (count (flattened xs)) (omega arith) in
      rw (even, enough, many)

  -- a refusal owes nothing but its number
  pub point_too_many : (p : Vec3) → Answers (turned_down 3) (point_answer (flattened xs) p) (BoundedOffAxis (flattened xs))
  unfolding point_answer
  point_too_many p = record { equal = rw (number_three _ _); owed = tt }

  pub sphere_too_many : (b : Sphere) → Answers (turned_down 3) (sphere_answer (flattened xs) b) (BoundedOffAxis (flattened xs))
  unfolding sphere_answer
  sphere_too_many b = record { equal = rw (number_three _ _); owed = tt }

  pub box_too_many : (x : Aabb) → Answers (turned_down 3) (box_answer (flattened xs) x) (Bounded (flattened xs))
  unfolding box_answer
  box_too_many x = record { equal = rw (number_three _ _); owed = tt }

  pub cylinder_too_many : (c : Cylinder) → Answers (turned_down 3) (cylinder_answer (flattened xs) c finest) (Promised (flattened xs) c finest)
  unfolding cylinder_answer
  cylinder_too_many c = record { equal = rw (number_three _ _); owed = tt }

  -- the same of the C interface's replies
  pub place_too_many : (x : Place) → c_reply (turned_down 3) ≡ c_reply (point_answer (flattened xs) (point_of x))
  place_too_many x = ap c_reply (point_too_many (point_of x)).equal

  pub ball_too_many : (x : Ball) → c_reply (turned_down 3) ≡ c_reply (sphere_answer (flattened xs) (sphere_of x))
  ball_too_many x = ap c_reply (sphere_too_many (sphere_of x)).equal

  pub bounds_too_many : (x : Bounds) → c_reply (turned_down 3) ≡ c_reply (box_answer (flattened xs) (box_of x))
  bounds_too_many x = ap c_reply (box_too_many (box_of x)).equal

  pub bar_too_many : (x : Bar) → c_cylinder_reply (turned_down 3) ≡ c_cylinder_reply (cylinder_answer (flattened xs) (cylinder_of x) finest)
  bar_too_many x = ap c_cylinder_reply (cylinder_too_many (cylinder_of x)).equal
