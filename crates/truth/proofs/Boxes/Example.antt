-- ONE OF 01'S READINGS: section S and the box z 25..30, r 0..5. What box-metre asks is so, and 5 mm is reported: no point of the
-- box lies nearer to a point of an edge than 5 mm less 2 ^ -11 mm.
use Prim.Native.Nat.{◌*◌, ◌+◌, ◌-◌, ◌<◌, ◌^◌, suc, zero, ℕ, ◌≤◌}
use mathlib.Core.List.{List, [], ◌∷◌}
use mathlib.Core.Path.{◌≡◌, refl, subst}
use native.Mathlib.Omega.{arith}
use lib.Dec.{leb→le}
use lib.Ieee.{add, binary64, div, fits, Float, le, lt, mul, neg, of_bits, sub}
use Rattle.arith.proofs.roots.Rounding.Key.{key, magnitude, mid, unit}
use Rattle.arith.specs.roots.Roots.{hypot, sqrt}
use Rattle.arith.specs.Num.{is_finite}
use Rattle.section.specs.profile.Vertices.{any, upto}
use Rattle.section.specs.declared.profile.shapes.Aabb.{Aabb}
use Rattle.section.specs.segments.Clip.{clip, clip_side}
use Rattle.section.specs.segments.Segments.{closest, closest_places, closest_point, segments}
use Rattle.section.specs.points.Overlap.{result_of}
use Rattle.section.specs.points.Points.{crosses, in_section, inside_axis_edge, point_distance, point_inside, surface_near, surface_step}
use Rattle.section.specs.boxes.Boxes.{aabb, box_distance, box_gap, box_holds, box_penetration, box_witness, edge_box, segment_through_interior}
use Rattle.section.specs.boxes.Boxes.{strictly_inside_aabb}
use Rattle.truth.specs.Exact.{origin, place, sqd, units}
use Rattle.truth.specs.Boxes.{InBox, OnEdges}
use Rattle.truth.proofs.Boxes.Sections.{box_metre, Placed, Vertices}

abbrev ten : Float
ten = of_bits binary64 0x4024000000000000

abbrev twenty : Float
twenty = of_bits binary64 0x4034000000000000

abbrev five : Float
five = of_bits binary64 0x4014000000000000

-- (0,10), (20,10), (20,0), (0,0)
abbrev pub section : List Float
section = of_bits binary64 0 ∷ ten ∷ twenty ∷ ten ∷ twenty ∷ of_bits binary64 0 ∷ of_bits binary64 0 ∷ of_bits binary64 0 ∷ []

abbrev pub box : Aabb
box = aabb (of_bits binary64 0x4039000000000000) (of_bits binary64 0x403e000000000000) (of_bits binary64 0) five

vertices : Vertices 1031 section
unfolding mid key magnitude unit of_bits fits
vertices zero l = record {
  z = record { sure = tt; lower = leb→le _ _ tt; upper = leb→le _ _ tt };
  r = record { sure = tt; lower = leb→le _ _ tt; upper = leb→le _ _ tt };
}
vertices (suc zero) l = record {
  z = record { sure = tt; lower = leb→le _ _ tt; upper = leb→le _ _ tt };
  r = record { sure = tt; lower = leb→le _ _ tt; upper = leb→le _ _ tt };
}
vertices (suc (suc zero)) l = record {
  z = record { sure = tt; lower = leb→le _ _ tt; upper = leb→le _ _ tt };
  r = record { sure = tt; lower = leb→le _ _ tt; upper = leb→le _ _ tt };
}
vertices (suc (suc (suc zero))) l = record {
  z = record { sure = tt; lower = leb→le _ _ tt; upper = leb→le _ _ tt };
  r = record { sure = tt; lower = leb→le _ _ tt; upper = leb→le _ _ tt };
}
vertices (suc (suc (suc (suc k)))) l = absurd (none l)
  where
    none : suc (suc (suc (suc k))) < 4 → ⊥
    none l = omega arith

placed : Placed 1031 box
unfolding mid key magnitude unit of_bits fits
placed = record {
  boxed = record {
    z0 = record { sure = tt; lower = leb→le _ _ tt; upper = leb→le _ _ tt };
    z1 = record { sure = tt; lower = leb→le _ _ tt; upper = leb→le _ _ tt };
    r0 = record { sure = tt; lower = leb→le _ _ tt; upper = leb→le _ _ tt };
    r1 = record { sure = tt; lower = leb→le _ _ tt; upper = leb→le _ _ tt };
  };
  z_order = leb→le _ _ tt;
  r_order = leb→le _ _ tt;
}

pub reported : (box_distance section box).distance ≡ five
unfolding add sub mul div neg lt le of_bits sqrt hypot is_finite upto any closest_point closest closest_places segments clip_side clip
    surface_step surface_near
    crosses point_inside inside_axis_edge in_section point_distance result_of edge_box strictly_inside_aabb segment_through_interior box_gap
    box_penetration box_witness
    box_holds box_distance
reported = refl

five_units : units five ≡ 5 * 2 ^ 1074
unfolding place origin of_bits
five_units = refl

-- so far from every edge is every point of the box
pub five_millimetres : (n Z R q z r : ℕ) → InBox box n Z R → OnEdges section q z r
    → n * q * (5 * 2 ^ 1074 - 9 * 2 ^ 1059) * (n * q * (5 * 2 ^ 1074 - 9 * 2 ^ 1059)) ≤ sqd (q * Z) (n * z) + sqd (q * R) (n * r)
five_millimetres n Z R q z r I O = subst
    (λ (w : ℕ). n * q * (w - 9 * 2 ^ 1059) * (n * q * (w - 9 * 2 ^ 1059)) ≤ sqd (q * Z) (n * z) + sqd (q * R) (n * r)) five_units
    (subst (λ (d : Float). n * q * (units d - 9 * 2 ^ 1059) * (n * q * (units d - 9 * 2 ^ 1059))
    ≤ sqd (q * Z) (n * z) + sqd (q * R) (n * r)) reported
    ((box_metre section vertices box placed).proof n Z R q z r I O))
