-- Demand 3 of every cylinder across the spindle, of radius above 1e-15, that is not turned down: its band is within the limit, and so
-- the walk over it covers.
use mathlib.Core.Path.{◌≡◌, refl}
use mathlib.Core.List.{List, ◌++◌}
use native.Mathlib.Nat.{not-le_of_lt}
use lib.Dec.{T}
use mathlib.Core.Bool.{true, false}
use lib.Ieee.{Float, binary64, fin, fits, inf, is_nan, le, nan, of_bits}
use lib.Ieee.Fits.{and_i}
use lib.Ieee.Scale.{finite}
use Rattle.arith.specs.F64.{◌≺◌, ◌≼◌, 𝟙, e_9, e_15}
use Rattle.arith.proofs.roots.Rounding.KeyOrder.{le→key, lt→key}
use Rattle.arith.proofs.Laws.Sizes.{Number, finite_number_lem, held_finite}
use Rattle.section.specs.profile.Refusals.{Test, refusal, axis_tests}
use Rattle.section.specs.profile.Steps.{numbered}
use Rattle.walk.specs.declared.settings.shapes.Settings.{Settings}
use Rattle.walk.proofs.settings.Taken.{SettingsTaken}
use Rattle.section.proofs.profile.Steps.{pick}
use Rattle.walk.specs.bands.Axis.{axis}
use Rattle.walk.specs.bands.Band.{band_of, measured_as}
use Rattle.walk.specs.declared.bands.shapes.Axis.{Axis}
use Rattle.walk.specs.declared.bands.shapes.Axis.TheVariants.{Axial, AlongX, AlongY, Neither}
use Rattle.walk.specs.declared.bands.shapes.Cylinder.{Cylinder}
use Rattle.walk.specs.declared.bands.shapes.RadialBand.{RadialBand}
use Rattle.walk.proofs.bands.Limit.{InLimit, band_of_in_limit, measured_as_in_limit, measured_as_radius}
use Rattle.walk.specs.Cover.{Covers}
use Rattle.walk.specs.Walk.{walk_with, walked, band_distance}
use Rattle.walk.specs.declared.shapes.CountedHit.{CountedHit}
use Rattle.walk.proofs.Cover.Covers.{covers}
use Rattle.walk.proofs.Cover.Depth.{Tolerance}
use Rattle.walk.specs.cylinders.Cylinders.{cylinder_numbers, cylinder_own, cylinder_tests, cylinder_distance}
use Rattle.walk.specs.cylinders.Promised.{Across, across_spindle}
use Rattle.walk.specs.cylinders.Steps.{Each, IsF64}
use Rattle.walk.proofs.cylinders.Cover.Accepted.{accepted}

-- a radius above 1e-15 is walked over
band_walked : (s : List Float) (b : RadialBand) (t : Settings) → Number b.radius → T (e_15 ≺ b.radius)
    → band_distance s b t ≡ walked (walk_with s b t)
unfolding band_distance
band_walked s b t p h =
    pick (λ (x : CountedHit). x ≡ walked (walk_with s b t)) (b.radius ≼ e_15)
    (λ g. absurd (not-le_of_lt (lt→key binary64 e_15 b.radius small p h) (le→key binary64 b.radius e_15 p small g)))
    (λ g. refl)
  where
    small : Number e_15
    small = unfold of_bits fits is_nan in tt

-- a tolerance from 1e-9 to 1 is finite
between : (x : Float) → T (e_9 ≼ x) → T (x ≼ 𝟙) → T (finite x)
unfolding le of_bits
between nan h k = h
between (inf true) h k = h
between (inf false) h k = k
between (fin s m e) h k = tt

tolerance : (t : Settings) → SettingsTaken t → IsF64 t.tolerance → Tolerance t.tolerance
tolerance t taken f =
    let x = t.tolerance in
    record { finite = and_i (fits binary64 x) (finite x) f (between x taken.fine taken.coarse); least = taken.fine }

-- The seven numbers of c, and the tolerance, are f64: the call knows it of its own parameters. The settings t are taken, whether
-- the call tests them or not.
module _ (s : List Float) (c : Cylinder) (extra : List Float) (settings : List Test)
    (h : T (numbered (settings ++ (axis_tests s ++ cylinder_own c.radius (axis c))))) (f : Each IsF64 (cylinder_numbers c))
    (e : refusal (cylinder_tests s c extra settings) ≡ 0) (t : Settings) (taken : SettingsTaken t) (g : IsF64 t.tolerance) where
  module _ (a : Axis) where
    abbrev band : RadialBand
    band = band_of (measured_as a c)

    in_limit : InLimit band
    in_limit = band_of_in_limit (measured_as_in_limit a (accepted s c extra settings h e).cylinder)

    held : IsF64 band.radius
    held = measured_as_radius IsF64 a c f.1.1.1.1.1.1.0

    -- document 01's walk covers, and so its array has room, whatever the axis and the radius
    pub walk_covers : Covers s band t.tolerance t.most t.intervals (walk_with s band t)
    walk_covers =
        covers s band t.tolerance t.most t.intervals
        (record { band = in_limit; held = held; tolerance = tolerance t taken g; some_box = taken.some_box })

    walks : T (e_15 ≺ c.radius) → Across s band t (band_distance s band t)
    walks w =
        record {
          walk = band_walked s band t (finite_number_lem (held_finite in_limit.radius held))
              (measured_as_radius (λ x. T (e_15 ≺ x)) a c w);
          covers = walk_covers;
        }

  pub across : T (across_spindle (axis c)) → T (e_15 ≺ c.radius) → Across s (band_of (measured_as (axis c) c)) t (cylinder_distance s c t)
  unfolding cylinder_distance
  across i w = by (axis c) refl i
    where
      by : (a : Axis) → axis c ≡ a → T (across_spindle a) → Across s (band_of (measured_as (axis c) c)) t (cylinder_distance s c t)
      by Axial j i = absurd i
      by AlongX j i = rw j (walks AlongX w)
      by AlongY j i = rw j (walks AlongY w)
      by Neither j i = absurd i
