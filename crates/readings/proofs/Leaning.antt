-- Verdicts of bars of 1,024 mm beside the section S that lean, along the spindle, along X and along Y: worked out by hand, and the
-- definitions give them, by computation.
use mathlib.Core.Bool.{Bool, true, false}
use mathlib.Core.Path.{◌≡◌, refl}
use lib.IntN.{negsuc}
use lib.Ieee.{Float, fin, of_int, neg, add, sub, mul, div, lt, le, of_bits}
use Rattle.arith.specs.Num.{is_finite}
use Rattle.arith.specs.Vector.{vec}
use Rattle.arith.specs.roots.Roots.{sqrt, hypot}
use Rattle.section.specs.profile.Vertices.{upto, any}
use Rattle.section.specs.profile.Refusals.{any_below_axis, refusal, any_of}
use Rattle.section.specs.profile.Replies.{value}
use Rattle.section.specs.segments.Segments.{closest_point, closest, closest_places, segments}
use Rattle.section.specs.segments.Clip.{clip_side, clip}
use Rattle.section.specs.points.Points.{surface_step, surface_near, crosses, point_inside, inside_axis_edge, in_section, point_distance}
use Rattle.section.specs.points.Overlap.{result_of}
use Rattle.section.specs.boxes.Boxes.{edge_box, strictly_inside_aabb, segment_through_interior, box_gap, box_penetration, box_witness}
use Rattle.section.specs.boxes.Boxes.{box_holds, box_distance}
use Rattle.section.specs.builders.Builder.{same_point, keep, kept_points, section_of}
use Rattle.walk.specs.bands.Axis.{axis_dir, axis}
use Rattle.walk.specs.bands.Band.{bar, axial_box, band_of, half_width, span_at}
use Rattle.walk.specs.declared.bands.shapes.Cylinder.{Cylinder}
use Rattle.walk.specs.Walk.{band_distance}
use Rattle.walk.specs.cylinders.Cylinders.{cylinder_distance}
use Rattle.bodies.specs.declared.shapes.Body.TheVariants as body_kinds
use Rattle.bodies.specs.verdicts.Verdicts.{body_verdict}
use Rattle.readings.proofs.Readings.{S, mm}

-- the ends stand (3/64, 1/16) apart across the spindle, so 5/64; the distance is 3
abbrev pub along : Cylinder
along =
    bar (vec (fin false 1917 (negsuc 6)) (fin true 1 (negsuc 4)) (mm 0))
    (vec (fin false 1923 (negsuc 6)) (fin false 1 (negsuc 4)) (mm 1024)) (mm 2)

abbrev pub sixteenth : Float
sixteenth = fin false 1 (negsuc 3)

-- 1/8 apart; the distance is 2
abbrev pub along_x : Cylinder
along_x = bar (vec (mm 12) (neg sixteenth) (mm 10)) (vec (mm 1036) sixteenth (mm 10)) (mm 0)

abbrev pub along_y : Cylinder
along_y = bar (vec (neg sixteenth) (mm 12) (mm 10)) (vec sixteenth (mm 1036) (mm 10)) (mm 0)

abbrev pub Collides : Cylinder → Float → Bool → Type 0
Collides c clearance collision = body_verdict S (body_kinds.Cylinder c) clearance ≡ value collision

-- a collision at the distance; clear at 3 - 5/128 and 2 - 1/16, where it is judged
pub record LeaningBars : Type 0 where
  pub along_hits : Collides along (mm 3) true
  pub along_clears : Collides along (fin false 379 (negsuc 6)) false
  pub along_x_hits : Collides along_x (mm 2) true
  pub along_x_clears : Collides along_x (fin false 31 (negsuc 3)) false
  pub along_y_hits : Collides along_y (mm 2) true
  pub along_y_clears : Collides along_y (fin false 31 (negsuc 3)) false

pub leaning_bars : LeaningBars
unfolding add sub mul div neg lt le of_int of_bits sqrt hypot is_finite
    upto any closest_point closest closest_places segments surface_step surface_near crosses point_inside inside_axis_edge in_section
    point_distance clip_side clip edge_box strictly_inside_aabb segment_through_interior box_gap box_penetration box_witness box_holds result_of box_distance
    same_point keep kept_points section_of refusal any_of any_below_axis axis_dir axis axial_box band_of half_width span_at band_distance
    cylinder_distance body_verdict
leaning_bars =
    record {
      along_hits = refl;
      along_clears = refl;
      along_x_hits = refl;
      along_x_clears = refl;
      along_y_hits = refl;
      along_y_clears = refl;
    }
