-- BOXES ARE NOT SO TRUE: a roof of two edges, each nearly parallel to the box's lower side, whose apex is 2 ^ -23.6 mm below that
-- side. The box's distance is 2 ^ -17.8 mm: |denominator| is well over 1e-18, but all its digits are rounding, and so is the
-- place s on each edge. By computation.
use Prim.Native.Nat.{◌+◌, ◌≤◌, ◌^◌}
use mathlib.Core.List.{List, [], ◌∷◌}
use mathlib.Core.Path.{◌≡◌, refl}
use lib.Dec.{leb→le}
use lib.Ieee.{Float, binary64, neg, add, sub, mul, div, lt, le, of_bits}
use Rattle.arith.specs.Num.{is_finite}
use Rattle.arith.specs.roots.Roots.{sqrt, hypot}
use Rattle.section.specs.profile.Vertices.{any, upto, vertex_at}
use Rattle.section.specs.declared.profile.shapes.Aabb.{Aabb}
use Rattle.section.specs.segments.Segments.{closest_point, closest, closest_places, segments}
use Rattle.section.specs.segments.Clip.{clip_side, clip}
use Rattle.section.specs.points.Points.{surface_step, surface_near, crosses, point_inside, inside_axis_edge, in_section, point_distance}
use Rattle.section.specs.points.Overlap.{result_of}
use Rattle.section.specs.boxes.Boxes.{edge_box, strictly_inside_aabb, segment_through_interior, box_gap, box_penetration, box_witness, box_holds}
use Rattle.section.specs.boxes.Boxes.{box_distance, aabb}
use Rattle.arith.specs.Whole.{apart}
use Rattle.truth.specs.Exact.{origin, place, size}

abbrev pub roof : List Float
roof =
    of_bits binary64 0xc075ab85bcdae2a3 ∷ of_bits binary64 0x4088900501549c3a ∷ of_bits binary64 0x40702b5ed04700b7 ∷ of_bits binary64
    0x4088900504380f64
    ∷ of_bits binary64 0x4085a33600b3fff8 ∷ of_bits binary64 0x40889005008c7c96 ∷ of_bits binary64 0x4085a33600b3fff8 ∷ of_bits
    binary64 0
    ∷ of_bits binary64 0xc075ab85bcdae2a3 ∷ of_bits binary64 0 ∷ []

abbrev pub box : Aabb
box = aabb (of_bits binary64 0xc079049ce2432559) (of_bits binary64 0x4082bb8f5a7d74d8) (of_bits binary64 0x4088900504426550)
    (of_bits binary64 0x4089cc97fe479d91)

pub reported : (box_distance roof box).distance ≡ of_bits binary64 0x3ed2603f28000000
unfolding add sub mul div neg lt le of_bits sqrt hypot is_finite upto any closest_point closest closest_places segments clip_side clip
    surface_step surface_near
    crosses point_inside inside_axis_edge in_section point_distance result_of edge_box strictly_inside_aabb segment_through_interior box_gap
    box_penetration box_witness
    box_holds box_distance
reported = refl

-- The apex, vertex 1, lies within the box's z, and nearer to its lower side than that by more than 2 ^ -18 mm: 2 ^ 1056 units.
pub within : (place box.z0 ≤ place (vertex_at roof 1).z) × (place (vertex_at roof 1).z ≤ place box.z1)
unfolding place origin of_bits
within = (leb→le _ _ tt, leb→le _ _ tt)

pub nearer : place box.r0 + 2 ^ 1056 ≤ place (vertex_at roof 1).r + size (of_bits binary64 0x3ed2603f28000000)
unfolding place origin of_bits size apart
nearer = leb→le _ _ tt
