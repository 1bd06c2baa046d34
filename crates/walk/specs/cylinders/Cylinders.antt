-- What the cylinder query answers: a hit with its counts and mark, or the number under which it is turned down.
use Rattle.std.specs.Prelude.{Bool, true, false, List, [], ◌∷◌, ◌++◌, Float}
use Rattle.section.specs.profile.Refusals.{Test, ◌when◌, refusal, point_numbers, radius_tests, beside_tests}
use Rattle.section.specs.profile.Replies.{Reply, reply}
use Rattle.section.specs.boxes.Boxes.{box_distance}
use Rattle.walk.specs.bands.Axis.{axis}
use Rattle.walk.specs.bands.Band.{axial_box, band_of, exchanged}
use Rattle.walk.specs.Walk.{one_box, band_distance}
use Rattle.walk.specs.declared.bands.shapes.Cylinder.{Cylinder}
use Rattle.walk.specs.settings.Settings.{settings_tests}
use Rattle.walk.specs.declared.settings.shapes.Settings.{Settings}
use Rattle.walk.specs.declared.bands.shapes.Axis.{Axis}
use Rattle.walk.specs.declared.bands.shapes.Axis.TheVariants.{Axial, AlongX, AlongY, Neither}
use Rattle.walk.specs.declared.shapes.CountedHit.{CountedHit}

abbrev pub neither : Axis → Bool
neither Axial = false
neither AlongX = false
neither AlongY = false
neither Neither = true

abbrev pub cylinder_numbers : Cylinder → List Float
cylinder_numbers c = point_numbers c.a ++ (point_numbers c.b ++ (c.radius ∷ []))

-- a cylinder's own, by its axis
abbrev pub cylinder_own : Float → Axis → List Test
cylinder_own radius axis = radius_tests radius ++ ((11 when neither axis) ∷ [])

abbrev pub cylinder_tests : List Float → Cylinder → List Float → List Test → List Test
cylinder_tests s c extra settings = beside_tests s (cylinder_numbers c) extra settings (cylinder_own c.radius (axis c))

-- by the axis; one along Y is measured as the radial one with x and y exchanged; what is neither axial nor radial is turned down
unfoldable pub cylinder_distance : List Float → Cylinder → Settings → CountedHit
cylinder_distance s c t = by (axis c)
  where
    by : Axis → CountedHit
    by Axial = one_box (box_distance s (axial_box c))
    by AlongX = band_distance s (band_of c) t
    by AlongY = band_distance s (band_of (exchanged c)) t
    by Neither = one_box (box_distance s (axial_box c))

unfoldable pub cylinder_answer : List Float → Cylinder → Settings → Reply CountedHit
cylinder_answer s c t = reply (refusal (cylinder_tests s c [] (settings_tests t))) (cylinder_distance s c t)
