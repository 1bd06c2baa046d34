-- A cylinder's distance, witness, edge, counts and mark, of every section and at all settings: mirrored in x or in y they are the
-- same, and with the ends swapped the same but for the sign of a zero; across the spindle not even that differs. By the axis: the
-- box along the spindle, and the bands across it. Of every cylinder within the limits.
use mathlib.Core.List.{List}
use mathlib.Core.Path.{ap, refl, subst, ◌≡◌}
use lib.Dec.{T}
use lib.Ieee.{Float}
use Rattle.section.specs.declared.profile.shapes.Aabb.{Aabb}
use Rattle.section.specs.boxes.Boxes.{box_distance}
use Rattle.walk.specs.declared.settings.shapes.Settings.{Settings}
use Rattle.walk.specs.bands.Axis.{axis}
use Rattle.walk.specs.bands.Band.{axial_box, band_of, measured_as}
use Rattle.walk.specs.declared.bands.shapes.Axis.{Axis}
use Rattle.walk.specs.declared.bands.shapes.Axis.TheVariants.{Axial, AlongX, AlongY, Neither}
use Rattle.walk.specs.declared.bands.shapes.Cylinder.{Cylinder}
use Rattle.walk.proofs.bands.Limit.{CylinderInLimit}
use Rattle.walk.specs.Walk.{band_distance, one_box}
use Rattle.walk.specs.declared.shapes.CountedHit.{CountedHit}
use Rattle.walk.specs.cylinders.Cylinders.{cylinder_distance}
use Rattle.walk.specs.cylinders.Promised.{across_spindle}
use Rattle.symmetry.specs.Alike.{LikeCounted}
use Rattle.symmetry.specs.Moved.{ends_swapped, mirrored_x, mirrored_y}
use Rattle.symmetry.proofs.Section.Boxes.{box_distance_like, EqualBox}
use Rattle.symmetry.proofs.Section.Shapes.{same_hit}
use Rattle.symmetry.proofs.Walks.{Agree, band_distance_same}
use Rattle.symmetry.proofs.Cylinder.Axes.{axis_mirrored_x, axis_mirrored_y, axis_swapped}
use Rattle.symmetry.proofs.Cylinder.AxialBoxes.{box_mirrored_x, box_mirrored_y, box_swapped}
use Rattle.symmetry.proofs.Cylinder.Bands.{bands_mirrored_x, bands_mirrored_y, bands_swapped}

pub like_counted : {h k : CountedHit} → h ≡ k → LikeCounted h k
like_counted {h} e = subst (LikeCounted h) e (record { hit = same_hit; boxes = refl; waiting = refl; cut = refl })

-- ---- two cylinders with the same axis, and bands that agree
module _ (s : List Float) (t : Settings) (c c' : Cylinder) (e : axis c ≡ axis c')
    (bands : (a : Axis) → Agree (band_of (measured_as a c)) (band_of (measured_as a c'))) where
  across : (a : Axis) → band_distance s (band_of (measured_as a c)) t ≡ band_distance s (band_of (measured_as a c')) t
  across a = band_distance_same (band_of (measured_as a c)) (band_of (measured_as a c')) (bands a) s t

  distance_same : axial_box c ≡ axial_box c' → cylinder_distance s c t ≡ cylinder_distance s c' t
  unfolding cylinder_distance
  distance_same box = by (axis c') e refl
    where
      along : one_box (box_distance s (axial_box c)) ≡ one_box (box_distance s (axial_box c'))
      along = ap (λ (x : Aabb). one_box (box_distance s x)) box

      by : (a : Axis) → axis c ≡ a → axis c' ≡ a → cylinder_distance s c t ≡ cylinder_distance s c' t
      by Axial p q = rw (p, q) along
      by AlongX p q = rw (p, q) (across AlongX)
      by AlongY p q = rw (p, q) (across AlongY)
      by Neither p q = rw (p, q) along

  distance_like : EqualBox (axial_box c) (axial_box c') → LikeCounted (cylinder_distance s c t) (cylinder_distance s c' t)
  unfolding cylinder_distance
  distance_like box = by (axis c') e refl
    where
      along : LikeCounted (one_box (box_distance s (axial_box c))) (one_box (box_distance s (axial_box c')))
      along = record { hit = box_distance_like box s; boxes = refl; waiting = refl; cut = refl }

      by : (a : Axis) → axis c ≡ a → axis c' ≡ a → LikeCounted (cylinder_distance s c t) (cylinder_distance s c' t)
      by Axial p q = rw (p, q) along
      by AlongX p q = rw (p, q) (like_counted (across AlongX))
      by AlongY p q = rw (p, q) (like_counted (across AlongY))
      by Neither p q = rw (p, q) along

  distance_across : T (across_spindle (axis c')) → cylinder_distance s c t ≡ cylinder_distance s c' t
  unfolding cylinder_distance
  distance_across h = by (axis c') e refl
    where
      by : (a : Axis) → axis c ≡ a → axis c' ≡ a → cylinder_distance s c t ≡ cylinder_distance s c' t
      by Axial p q = absurd (subst (λ (a : Axis). T (across_spindle a)) q h)
      by AlongX p q = rw (p, q) (across AlongX)
      by AlongY p q = rw (p, q) (across AlongY)
      by Neither p q = absurd (subst (λ (a : Axis). T (across_spindle a)) q h)

-- ---- the moves
module _ (s : List Float) (t : Settings) {c : Cylinder} (C : CylinderInLimit c) where
  pub distance_mirrored_x : cylinder_distance s (mirrored_x c) t ≡ cylinder_distance s c t
  distance_mirrored_x = distance_same s t (mirrored_x c) c (axis_mirrored_x c) (bands_mirrored_x C) (box_mirrored_x c)

  pub distance_mirrored_y : cylinder_distance s (mirrored_y c) t ≡ cylinder_distance s c t
  distance_mirrored_y = distance_same s t (mirrored_y c) c (axis_mirrored_y c) (bands_mirrored_y C) (box_mirrored_y c)

  pub distance_swapped : LikeCounted (cylinder_distance s (ends_swapped c) t) (cylinder_distance s c t)
  distance_swapped = distance_like s t (ends_swapped c) c (axis_swapped c) (bands_swapped C) (box_swapped C)

  pub distance_swapped_across : T (across_spindle (axis c)) → cylinder_distance s (ends_swapped c) t ≡ cylinder_distance s c t
  distance_swapped_across = distance_across s t (ends_swapped c) c (axis_swapped c) (bands_swapped C)
