-- What every cylinder query promises of its answer: demands 1 and 3.
use Prim.Native.Nat.{zero-le}
use mathlib.Core.List.{List, [], ◌++◌}
use mathlib.Core.Path.{◌≡◌, refl}
use lib.Dec.{T, lit≤}
use lib.Ieee.{Float}
use Rattle.arith.specs.F64.{◌≼◌, e_15}
use Rattle.section.specs.declared.profile.shapes.CollisionHit.{CollisionHit}
use Rattle.section.specs.boxes.Boxes.{box_distance}
use Rattle.section.proofs.profile.Steps.{pick}
use Rattle.walk.specs.bands.Axis.{axis}
use Rattle.walk.specs.bands.Band.{axial_box, band_of, measured_as}
use Rattle.walk.specs.Walk.{band_distance, one_box, thin_box}
use Rattle.walk.specs.cylinders.Promised.{Few, Promised}
use Rattle.walk.specs.cylinders.Steps.{Each, IsF64}
use Rattle.section.specs.profile.Refusals.{Test, refusal, axis_tests}
use Rattle.section.specs.profile.Steps.{numbered}
use Rattle.walk.specs.settings.Settings.{settings_tests}
use Rattle.walk.specs.declared.settings.shapes.Settings.{Settings}
use Rattle.walk.proofs.settings.Taken.{SettingsTaken}
use Rattle.section.specs.profile.Replies.{OfValue}
use Rattle.section.proofs.profile.Replies.{of_reply}
use Rattle.walk.specs.cylinders.Cylinders.{cylinder_answer, cylinder_distance, cylinder_numbers, cylinder_own, cylinder_tests}
use Rattle.walk.specs.declared.bands.shapes.Axis.{Axis}
use Rattle.walk.specs.declared.bands.shapes.Axis.TheVariants.{Axial, AlongX, AlongY, Neither}
use Rattle.walk.specs.declared.bands.shapes.Cylinder.{Cylinder}
use Rattle.walk.proofs.cylinders.Cover.Accepted.{settings_accepted}
use Rattle.walk.proofs.cylinders.Cover.Across.{across, walk_covers}
use Rattle.walk.proofs.cylinders.Demand.Cylinders.{cylinder_bounded}

module _ (s : List Float) (c : Cylinder) (t : Settings) (f : Each IsF64 (cylinder_numbers c)) (g : IsF64 t.tolerance) where
  -- the counts of a hit, whatever else is given: one box, or those of the walk, which covers
  module _ (extra : List Float) (settings : List Test) (n : T (numbered (settings ++ (axis_tests s ++ cylinder_own c.radius (axis c)))))
      (e : refusal (cylinder_tests s c extra settings) ≡ 0) (taken : SettingsTaken t) where
    one : (h : CollisionHit) → Few t (one_box h)
    one h = record { some_box = lit≤ tt; boxes = taken.some_box; waiting = zero-le }

    walk_few : (a : Axis) → Few t (band_distance s (band_of (measured_as a c)) t)
    unfolding band_distance
    walk_few a =
        let b = band_of (measured_as a c) in
        let w = walk_covers s c extra settings n f e t taken g a in
        pick (Few t) (b.radius ≼ e_15) (λ h. one (box_distance s (thin_box b)))
        (λ h. record { some_box = w.some_box; boxes = w.boxes; waiting = w.room })

    pub few : Few t (cylinder_distance s c t)
    unfolding cylinder_distance
    few = by (axis c) refl
      where
        by : (a : Axis) → axis c ≡ a → Few t (cylinder_distance s c t)
        by Axial i = rw i (one (box_distance s (axial_box c)))
        by AlongX i = rw i (walk_few AlongX)
        by AlongY i = rw i (walk_few AlongY)
        by Neither i = rw i (one (box_distance s (axial_box c)))

  pub promised : OfValue (Promised s c t) (cylinder_answer s c t)
  unfolding cylinder_answer
  promised =
      of_reply (Promised s c t) (refusal (cylinder_tests s c [] (settings_tests t))) (cylinder_distance s c t)
      (λ e. record {
        bounded = cylinder_bounded s c t e (settings_accepted s c t e);
        few = few [] (settings_tests t) tt e (settings_accepted s c t e);
        across = across s c [] (settings_tests t) tt f e t (settings_accepted s c t e) g;
      })
