-- Exchanging x and y changes no answer, so that a cylinder along Y is answered as the exchanged one along X: the same numbers are
-- tested in another order, X and Y change places, and hypot commutes.
use mathlib.Core.Bool.{Bool, true, false, ◌||◌}
use mathlib.Core.List.{List, [], ◌++◌}
use mathlib.Core.Path.{◌≡◌, ◌∙◌, refl, sym, ap}
use lib.Ieee.{Float, binary64}
use Rattle.arith.proofs.Laws.Hypot.{hypot_comm}
use Rattle.section.specs.profile.Refusals.{any_of, not_finite, over_limit, refusal}
use Rattle.section.proofs.profile.Refusals.AnyOf.{any_of_append}
use Rattle.walk.specs.settings.Settings.{settings_tests}
use Rattle.walk.specs.declared.settings.shapes.Settings.{Settings}
use Rattle.walk.specs.bands.Axis.{axis}
use Rattle.walk.specs.bands.Band.{axial_box, exchanged, mean}
use Rattle.walk.specs.declared.bands.shapes.Axis.{Axis}
use Rattle.walk.specs.declared.bands.shapes.Axis.TheVariants.{Axial, AlongX, AlongY, Neither}
use Rattle.walk.specs.declared.bands.shapes.Cylinder.{Cylinder}
use Rattle.walk.proofs.bands.Exchange.{exchanged_axis, swapped}
use Rattle.walk.specs.cylinders.Cylinders.{cylinder_answer, cylinder_distance, cylinder_numbers, cylinder_tests, neither}

swap : (a b r : Bool) → (a || (b || r)) ≡ (b || (a || r))
swap true true r = refl
swap true false r = refl
swap false b r = refl

numbers_swapped : (test : Float → Bool) (c : Cylinder) (l : List Float)
    → any_of test (cylinder_numbers (exchanged c) ++ l) ≡ any_of test (cylinder_numbers c ++ l)
unfolding any_of
numbers_swapped test c l =
    rw (swap (test c.a.y) (test c.a.x) _, swap (test c.b.y) (test c.b.x) _)

given_swapped : (test : Float → Bool) (s : List Float) (c : Cylinder) (l : List Float)
    → any_of test (s ++ (cylinder_numbers (exchanged c) ++ l)) ≡ any_of test (s ++ (cylinder_numbers c ++ l))
given_swapped test s c l = rw (any_of_append test s _, any_of_append test s _, numbers_swapped test c l)

module _ (s : List Float) (c : Cylinder) (t : Settings) where
  refusal_exchanged : refusal (cylinder_tests s (exchanged c) [] (settings_tests t)) ≡ refusal (cylinder_tests s c [] (settings_tests t))
  unfolding refusal
  refusal_exchanged = rw (given_swapped not_finite s c [], given_swapped over_limit s c [], exchanged_axis c, neither_swapped (axis c))
    where
      neither_swapped : (a : Axis) → neither (swapped a) ≡ neither a
      neither_swapped Axial = refl
      neither_swapped AlongX = refl
      neither_swapped AlongY = refl
      neither_swapped Neither = refl

  box_exchanged : axial_box (exchanged c) ≡ axial_box c
  unfolding axial_box
  box_exchanged = rw (hypot_comm binary64 (mean c.a.y c.b.y) (mean c.a.x c.b.x))

  distance_exchanged : cylinder_distance s (exchanged c) t ≡ cylinder_distance s c t
  unfolding cylinder_distance
  distance_exchanged = by (axis c) refl
    where
      by : (a : Axis) → axis c ≡ a → cylinder_distance s (exchanged c) t ≡ cylinder_distance s c t
      by Axial e = rw (exchanged_axis c, e, box_exchanged)
      by AlongX e = rw (exchanged_axis c, e)
      by AlongY e = rw (exchanged_axis c, e)
      by Neither e = rw (exchanged_axis c, e, box_exchanged)

  -- the whole answer: number, distance, witness, counts and mark
  pub answer_exchanged : cylinder_answer s (exchanged c) t ≡ cylinder_answer s c t
  unfolding cylinder_answer
  answer_exchanged = rw (refusal_exchanged, distance_exchanged)

-- along Y: the answer of the exchanged cylinder, which is along X
pub record AsAlongX (s : List Float) (c : Cylinder) (t : Settings) : Type 0 where
  pub direction : axis (exchanged c) ≡ AlongX
  pub answer : cylinder_answer s c t ≡ cylinder_answer s (exchanged c) t

pub along_y_lem : (s : List Float) (c : Cylinder) (t : Settings) → axis c ≡ AlongY → AsAlongX s c t
along_y_lem s c t e = record { direction = exchanged_axis c ∙ ap swapped e; answer = sym (answer_exchanged s c t) }
