-- Demand 1 of cylinders: where none is turned down the distance is at most 2 ^ 28 and the witness 2 ^ 25, along the
-- spindle and across it, thin or walked, cut or not; beside a section on the axis only, too.
use mathlib.Core.List.{List, []}
use mathlib.Core.Path.{◌≡◌, refl}
use native.Mathlib.Nat.{le_trans}
use lib.Dec.{lit≤}
use lib.Ieee.{Float}
use Rattle.arith.specs.F64.{◌≼◌, e_15}
use Rattle.arith.proofs.Laws.Sizes.{finite_raise}
use Rattle.section.proofs.profile.Steps.{pick}
use Rattle.section.specs.profile.Vertices.{count}
use Rattle.section.specs.boxes.Boxes.{box_distance}
use Rattle.section.specs.Demand.{Bounded}
use Rattle.section.proofs.Demand.Bounds.{finite_at_most}
use Rattle.section.proofs.Demand.Boxes.{box_at_most}
use Rattle.section.proofs.Demand.Hits.{BoxAtMost, HitAtMost, VerticesAtMost, hit_raise}
use Rattle.section.proofs.Demand.Queries.{hit_bounded}
use Rattle.section.proofs.Demand.AtMost.{at_most_raise, value_at_most}
use Rattle.walk.specs.bands.Axis.{axis}
use Rattle.walk.specs.bands.Band.{axial_box}
use Rattle.walk.specs.declared.bands.shapes.Axis.{Axis}
use Rattle.walk.specs.declared.bands.shapes.Axis.TheVariants.{Axial, AlongX, AlongY, Neither}
use Rattle.walk.specs.declared.bands.shapes.Cylinder.{Cylinder}
use Rattle.walk.specs.declared.bands.shapes.RadialBand.{RadialBand}
use Rattle.walk.proofs.bands.AxialBox.{axial_r0, axial_r1, axial_z0, axial_z1}
use Rattle.walk.proofs.bands.Limit.{CylinderInLimit, InLimit, band_of_in_limit, measured_as_in_limit}
use Rattle.walk.specs.Walk.{band_distance}
use Rattle.walk.specs.declared.shapes.CountedHit.{CountedHit}
use Rattle.walk.proofs.Demand.Pieces.{thin_box_at_most}
use Rattle.walk.proofs.Demand.Walks.{walk_all_at_most, walked_at_most}
use Rattle.section.specs.profile.Refusals.{refusal}
use Rattle.walk.specs.settings.Settings.{settings_tests}
use Rattle.walk.specs.declared.settings.shapes.Settings.{Settings}
use Rattle.walk.proofs.settings.Taken.{SettingsTaken}
use Rattle.walk.specs.cylinders.Cylinders.{cylinder_distance, cylinder_tests}
use Rattle.walk.proofs.cylinders.Cover.Accepted.{accepted}

axial_box_at_most : {c : Cylinder} → CylinderInLimit c → BoxAtMost 23 (axial_box c)
axial_box_at_most C =
    record {
      z0 = at_most_raise (value_at_most 20 (axial_z0 C).value) tt;
      z1 = at_most_raise (value_at_most 20 (axial_z1 C).value) tt;
      r0 = finite_at_most (finite_raise (axial_r0 C) tt);
      r1 = finite_at_most (finite_raise (axial_r1 C) tt);
    }

module _ {s : List Float} (S : VerticesAtMost 23 s) where
  band_at_most : {b : RadialBand} {t : Settings} → SettingsTaken t → InLimit b → HitAtMost 28 (count s) (band_distance s b t).hit
  unfolding band_distance
  band_at_most {b} {t} taken B =
      pick (λ (w : CountedHit). HitAtMost 28 (count s) w.hit) (b.radius ≼ e_15)
      (λ h. hit_raise (box_at_most S (thin_box_at_most B)) tt)
      (λ h. walked_at_most (walk_all_at_most S B t.tolerance t.most taken.some_box
      (record { some = taken.some_interval; few = le_trans taken.samples (lit≤ tt) })))

  pub cylinder_at_most : {c : Cylinder} {t : Settings} → SettingsTaken t → CylinderInLimit c
      → HitAtMost 28 (count s) (cylinder_distance s c t).hit
  unfolding cylinder_distance
  cylinder_at_most {c} {t} taken C = by (axis c) refl
    where
      along : HitAtMost 28 (count s) (box_distance s (axial_box c))
      along = hit_raise (box_at_most S (axial_box_at_most C)) tt

      by : (a : Axis) → axis c ≡ a → HitAtMost 28 (count s) (cylinder_distance s c t).hit
      by Axial e = rw e along
      by AlongX e = rw e (band_at_most taken (band_of_in_limit C))
      by AlongY e = rw e (band_at_most taken (band_of_in_limit (measured_as_in_limit AlongY C)))
      by Neither e = rw e along

pub cylinder_bounded : (s : List Float) (c : Cylinder) (t : Settings) → refusal (cylinder_tests s c [] (settings_tests t)) ≡ 0
    → SettingsTaken t → Bounded s (cylinder_distance s c t).hit
cylinder_bounded s c t e taken =
    let A = accepted s c [] (settings_tests t) tt e in
    hit_bounded A.section (cylinder_at_most A.section taken A.cylinder) tt
