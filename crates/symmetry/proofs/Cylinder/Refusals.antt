-- What is turned down of a cylinder sees neither the order of its ends nor the signs of x and y: the same numbers are tested, a
-- test is blind to signs, and the axis is the same. Whatever else is given, and whatever the settings.
use Prim.Native.Nat.{ℕ}
use mathlib.Core.Bool.{Bool, ◌||◌, false, true}
use mathlib.Core.List.{List, [], ◌∷◌, ◌++◌}
use mathlib.Core.Path.{◌≡◌, ap, refl, sym, ◌∙◌}
use lib.Ieee.{Float, fin, inf, nan, neg}
use Rattle.arith.specs.F64.{limit}
use Rattle.arith.specs.Num.{is_finite}
use Rattle.section.specs.profile.Refusals.{Test, any_of, not_finite, over_limit, point_numbers, refusal}
use Rattle.section.proofs.profile.Refusals.AnyOf.{any_of_append}
use Rattle.walk.specs.bands.Axis.{axis}
use Rattle.walk.specs.declared.bands.shapes.Cylinder.{Cylinder}
use Rattle.walk.specs.cylinders.Cylinders.{cylinder_numbers, cylinder_tests}
use Rattle.symmetry.specs.Alike.{same}
use Rattle.symmetry.specs.Moved.{ends_swapped, mirrored_x, mirrored_y}
use Rattle.symmetry.proofs.Floats.Like.{like_lt}
use Rattle.symmetry.proofs.Floats.Signs.{abs_neg}
use Rattle.symmetry.proofs.Cylinder.Axes.{axis_mirrored_x, axis_mirrored_y, axis_swapped}

not_finite_neg : (x : Float) → not_finite (neg x) ≡ not_finite x
unfolding is_finite neg
not_finite_neg nan = refl
not_finite_neg (inf s) = refl
not_finite_neg (fin s m e) = refl

over_limit_neg : (x : Float) → over_limit (neg x) ≡ over_limit x
over_limit_neg x = like_lt (same {x = limit}) (abs_neg x)

-- ---- a test over the numbers
module _ (test : Float → Bool) where
  or_swap : (p q r : Bool) → (p || (q || r)) ≡ (q || (p || r))
  or_swap true true r = refl
  or_swap true false r = refl
  or_swap false q r = refl

  numbers_swapped : (c : Cylinder) → any_of test (cylinder_numbers (ends_swapped c)) ≡ any_of test (cylinder_numbers c)
  numbers_swapped c =
      let A = point_numbers c.a in
      let B = point_numbers c.b in
      let R : List Float = c.radius ∷ [] in
      any_of_append test B (A ++ R) ∙ ap (λ (z : Bool). any_of test B || z) (any_of_append test A R)
      ∙ or_swap (any_of test B) (any_of test A) (any_of test R)
      ∙ sym (any_of_append test A (B ++ R) ∙ ap (λ (z : Bool). any_of test A || z) (any_of_append test B R))

  module _ (blind : (x : Float) → test (neg x) ≡ test x) (c : Cylinder) where
    numbers_mirrored_x : any_of test (cylinder_numbers (mirrored_x c)) ≡ any_of test (cylinder_numbers c)
    unfolding any_of
    numbers_mirrored_x = rw (blind c.a.x, blind c.b.x)

    numbers_mirrored_y : any_of test (cylinder_numbers (mirrored_y c)) ≡ any_of test (cylinder_numbers c)
    unfolding any_of
    numbers_mirrored_y = rw (blind c.a.y, blind c.b.y)

  -- between the section's numbers and what else is given
  given_same : (s n n' extra : List Float) → any_of test n ≡ any_of test n'
      → any_of test (s ++ (n ++ extra)) ≡ any_of test (s ++ (n' ++ extra))
  given_same s n n' extra e =
      rw (
        any_of_append test s (n ++ extra),
        any_of_append test s (n' ++ extra),
        any_of_append test n extra,
        any_of_append test n' extra,
        e,
      )

-- ---- the same numbers, test by test, the same radius and the same axis
module _ (s : List Float) (extra : List Float) (settings : List Test) where
  abbrev number : Cylinder → ℕ
  number c = refusal (cylinder_tests s c extra settings)

  number_by : (c c' : Cylinder) → c.radius ≡ c'.radius → axis c ≡ axis c'
      → any_of not_finite (cylinder_numbers c) ≡ any_of not_finite (cylinder_numbers c')
      → any_of over_limit (cylinder_numbers c) ≡ any_of over_limit (cylinder_numbers c') → number c ≡ number c'
  unfolding refusal
  number_by c c' r a e g =
      rw (
        given_same not_finite s (cylinder_numbers c) (cylinder_numbers c') extra e,
        given_same over_limit s (cylinder_numbers c) (cylinder_numbers c') extra g,
        a,
        r,
      )

  module _ (c : Cylinder) where
    pub number_swapped : number (ends_swapped c) ≡ number c
    number_swapped =
        number_by (ends_swapped c) c refl (axis_swapped c) (numbers_swapped not_finite c) (numbers_swapped over_limit c)

    pub number_mirrored_x : number (mirrored_x c) ≡ number c
    number_mirrored_x =
        number_by (mirrored_x c) c refl (axis_mirrored_x c) (numbers_mirrored_x not_finite not_finite_neg c)
        (numbers_mirrored_x over_limit over_limit_neg c)

    pub number_mirrored_y : number (mirrored_y c) ≡ number c
    number_mirrored_y =
        number_by (mirrored_y c) c refl (axis_mirrored_y c) (numbers_mirrored_y not_finite not_finite_neg c)
        (numbers_mirrored_y over_limit over_limit_neg c)
