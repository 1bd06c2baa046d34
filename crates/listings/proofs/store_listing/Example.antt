-- 01's example: records 0 to 5 in chain order, holding section S and the box 25, 30, 0, 5, print two lines. By
-- computation.
use Prim.Native.Nat.{ℕ}
use mathlib.Core.Path.{◌≡◌, refl}
use mathlib.Core.List.{List, ◌++◌, flat_map}
use lib.IntN.{pos}
use lib.Ieee.{binary64, add, sub, mul, div, neg, lt, le, eq, of_int, of_bits, to_bits}
use Rattle.arith.specs.Num.{is_finite}
use Rattle.arith.specs.roots.Roots.{hypot}
use Rattle.section.specs.profile.Vertices.{upto, any}
use Rattle.section.specs.segments.Segments.{closest_point, closest, closest_places, segments}
use Rattle.section.specs.points.Points.{surface_step, surface_near, crosses, point_inside, inside_axis_edge, in_section, point_distance}
use Rattle.section.specs.segments.Clip.{clip_side, clip}
use Rattle.section.specs.boxes.Boxes.{edge_box, strictly_inside_aabb, segment_through_interior, box_gap, box_penetration, box_witness, box_holds}
use Rattle.section.specs.points.Overlap.{result_of}
use Rattle.section.specs.boxes.Boxes.{box_distance}
use Rattle.section.specs.profile.Refusals.{any_of, any_below_axis, refusal}
use Rattle.section.specs.Answers.{box_answer}
use Rattle.store.specs.Bytes.{little_endian, low_bytes}
use Rattle.store.specs.Records.{next, kind, number, record_bytes}
use Rattle.store.specs.Chain.{follow, chain}
use Rattle.store.specs.First.{first_refused}
use Rattle.store.specs.Kinds.{right_kind}
use Rattle.store.specs.Radii.{below_axis}
use Rattle.store.specs.Store.{vertices, length_answer, section_answer, store_answer, chained}
use Rattle.listings.specs.store_listing.Text.{text, decimal_at_most, decimal, hex, bits}
use Rattle.listings.specs.store_listing.Listing.{body_answer, field_text, edge_text, hit_text, body_line, section_line, refusal_line}
use Rattle.listings.specs.store_listing.Listing.{accepted_text, listing}

-- the bits of a whole number
abbrev f : ℕ → ℕ
f n = to_bits binary64 (of_int binary64 (pos n))

unfoldable pub example : List ℕ
example =
    record_bytes 1 0 (f 0) (f 0) (f 0) (f 0)
    ++ record_bytes 2 1 (f 0) (f 10) (f 0) (f 0)
    ++ record_bytes 3 1 (f 20) (f 10) (f 0) (f 0)
    ++ record_bytes 4 1 (f 20) (f 0) (f 0) (f 0)
    ++ record_bytes 5 1 (f 0) (f 0) (f 0) (f 0)
    ++ record_bytes 0 3 (f 25) (f 30) (f 0) (f 5)

pub example_lists : listing example ≡ text "section 4\n5 4014000000000000 4034000000000000 0000000000000000 1\n"
unfolding add sub mul div neg lt le eq of_int of_bits to_bits is_finite hypot upto any closest_point closest closest_places segments
    surface_step surface_near crosses point_inside inside_axis_edge in_section point_distance clip_side clip edge_box
    strictly_inside_aabb segment_through_interior box_gap box_penetration box_witness box_holds result_of box_distance any_of
    any_below_axis refusal box_answer little_endian next kind number follow chain right_kind first_refused below_axis vertices
    length_answer section_answer store_answer chained text decimal_at_most decimal hex bits body_answer field_text edge_text hit_text
    body_line section_line refusal_line accepted_text listing low_bytes record_bytes example flat_map
example_lists = refl
