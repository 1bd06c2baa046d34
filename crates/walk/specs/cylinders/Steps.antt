-- What the functions below the entry points ask and promise.
use Rattle.std.specs.Prelude.{ℕ, ◌≡◌, List, [], ◌∷◌, T, Float}
use Rattle.std.specs.Float.{binary64}
use Rattle.std.specs.Float.Ieee.{fits}
use Rattle.section.specs.profile.Steps.{WithSettings}
use Rattle.walk.specs.bands.Axis.{axis}
use Rattle.walk.specs.bands.Band.{band_of, measured_as}
use Rattle.walk.specs.Steps.{WalkableWith}
use Rattle.walk.specs.declared.bands.shapes.Axis.{Axis}
use Rattle.walk.specs.declared.bands.shapes.Cylinder.{Cylinder}
use Rattle.walk.specs.declared.settings.shapes.Settings.{Settings}
use Rattle.walk.specs.cylinders.Cylinders.{cylinder_numbers, cylinder_tests}

abbrev pub IsF64 : Float → Type 0
IsF64 x = T (fits binary64 x)

abbrev pub Each : (Float → Type 0) → List Float → Type 0
Each P [] = Unit {0}
Each P (x ∷ xs) = P x × Each P xs

-- the number of a cylinder's tests, whichever tests of its settings had the number n; and what a function knows of its own
-- parameter, that its numbers are f64
pub record Checked (s : List Float) (c : Cylinder) (extra : List Float) (n r : ℕ) : Type 0 where
  pub number : WithSettings n (cylinder_tests s c extra) r
  pub f64s : Each IsF64 (cylinder_numbers c)

-- what the distance by the axis asks: the axis is known, and the walk has room
pub record Measurable (s : List Float) (c : Cylinder) (a : Axis) (t : Settings) : Type 0 where
  pub along : a ≡ axis c
  pub walkable : WalkableWith s (band_of (measured_as a c)) t
