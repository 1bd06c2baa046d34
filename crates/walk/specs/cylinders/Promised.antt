-- Demands 1 and 3 of a hit that the cylinder query gives.
use Rattle.std.specs.Prelude.{◌≤◌, ◌≡◌, Bool, true, false, List, T, Float}
use Rattle.arith.specs.F64.{◌≺◌, e_15}
use Rattle.section.specs.Demand.{Bounded}
use Rattle.walk.specs.bands.Axis.{axis}
use Rattle.walk.specs.bands.Band.{band_of, measured_as}
use Rattle.walk.specs.Walk.{walk_with, walked}
use Rattle.walk.specs.Cover.{Covers}
use Rattle.walk.specs.declared.bands.shapes.Cylinder.{Cylinder}
use Rattle.walk.specs.declared.bands.shapes.Axis.{Axis}
use Rattle.walk.specs.declared.bands.shapes.Axis.TheVariants.{Axial, AlongX, AlongY, Neither}
use Rattle.walk.specs.declared.bands.shapes.RadialBand.{RadialBand}
use Rattle.walk.specs.declared.settings.shapes.Settings.{Settings}
use Rattle.walk.specs.declared.shapes.CountedHit.{CountedHit}

-- Demand 3 of a hit: across the spindle, radius above 1e-15, distance, counts and mark are those of 01's walk over the band with
-- these settings, and the walk covers
pub record Across (s : List Float) (b : RadialBand) (t : Settings) (h : CountedHit) : Type 0 where
  pub walk : h ≡ walked (walk_with s b t)
  pub covers : Covers s b t.tolerance t.most t.intervals (walk_with s b t)

-- counts within their limits
pub record Few (t : Settings) (h : CountedHit) : Type 0 where
  pub some_box : 1 ≤ h.boxes
  pub boxes : h.boxes ≤ t.most
  pub waiting : h.waiting ≤ 54

abbrev pub across_spindle : Axis → Bool
across_spindle Axial = false
across_spindle AlongX = true
across_spindle AlongY = true
across_spindle Neither = false

-- Demands 1 and 3 of a hit: always finite, also beside a section on the axis only; counts within their limits; along X and along Y
-- the walk's promise, the band of a cylinder along Y being that of the exchanged one
pub record Promised (s : List Float) (c : Cylinder) (t : Settings) (h : CountedHit) : Type 0 where
  pub bounded : Bounded s h.hit
  pub few : Few t h
  pub across : T (across_spindle (axis c)) → T (e_15 ≺ c.radius) → Across s (band_of (measured_as (axis c) c)) t h
