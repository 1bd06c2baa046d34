-- THE HYPOTHESES ARE MET at one of 01's readings, and the theorem says something there: section S and the box z 25..30, r 0..5
-- are judged clear at 5 mm, so no point of the box lies nearer to a point of the solid than 5 mm less box_loss; (10, 5) is one.
use mathlib.Core.Bool.{false}
use mathlib.Core.List.{List}
use mathlib.Core.Path.{◌≡◌, refl}
use lib.Dec.{T}
use lib.Ieee.{add, binary64, div, eq, fits, Float, le, lt, mul, nan, neg, of_bits, sub}
use Rattle.arith.specs.roots.Roots.{hypot, sqrt}
use Rattle.arith.specs.Num.{is_finite}
use Rattle.section.specs.profile.Refusals.{any_below_axis, any_of, box_numbers, refusal}
use Rattle.section.specs.profile.Replies.{value}
use Rattle.section.specs.profile.Vertices.{any, upto}
use Rattle.section.proofs.profile.Each.{All, all_at, cons, nil}
use Rattle.section.specs.segments.Clip.{clip, clip_side}
use Rattle.section.specs.segments.Segments.{closest, closest_places, closest_point, segments}
use Rattle.section.specs.points.Overlap.{result_of}
use Rattle.section.specs.points.Points.{crosses, in_section, inside_axis_edge, point_distance, point_inside, surface_near, surface_step}
use Rattle.section.specs.boxes.Boxes.{box_distance, box_gap, box_holds, box_penetration, box_witness, edge_box, segment_through_interior}
use Rattle.section.specs.boxes.Boxes.{strictly_inside_aabb}
use Rattle.bodies.specs.declared.shapes.Body.TheVariants.{Box}
use Rattle.bodies.specs.verdicts.Verdicts.{body_verdict}
use Rattle.truth.specs.Exact.{origin, place, units}
use Rattle.truth.specs.Points.{full, Held}
use Rattle.truth.specs.Solid.{area, exact_crosses, exact_inside, sound}
use Rattle.truth.specs.Boxes.{box_loss, ClearOfBox, InSolid, inside}
use Rattle.truth.proofs.Boxes.Example.{box, section}
use Rattle.truth.proofs.Boxes.Verdicts.{box_verdict_solid}

abbrev five : Float
five = of_bits binary64 0x4014000000000000

abbrev ten : Float
ten = of_bits binary64 0x4024000000000000

held : {l : List Float} → All (λ (x : Float). T (fits binary64 x)) l → Held l
held A k w = all_at A nan k w

section_held : Held section
unfolding fits of_bits
section_held = held (cons tt (cons tt (cons tt (cons tt (cons tt (cons tt (cons tt (cons tt nil))))))))

box_held : Held (box_numbers box)
unfolding fits of_bits
box_held = held (cons tt (cons tt (cons tt (cons tt nil))))

section_sound : T (sound section)
unfolding sound any lt le eq of_bits
section_sound = tt

clear : body_verdict section (Box box) five ≡ value false
unfolding add sub mul div neg lt le of_bits sqrt hypot is_finite upto any closest_point closest closest_places segments clip_side clip
    surface_step surface_near
    crosses point_inside inside_axis_edge in_section point_distance result_of edge_box strictly_inside_aabb segment_through_interior box_gap
    box_penetration box_witness
    box_holds box_distance refusal any_of any_below_axis body_verdict
clear = refl

pub five_millimetres_kept : ClearOfBox (box_loss full) (units five) box (InSolid section)
unfolding fits of_bits
five_millimetres_kept = box_verdict_solid full section box five section_held box_held tt tt tt clear section_sound

pub in_the_solid : InSolid section 1 (place ten) (place five)
unfolding exact_inside exact_crosses area upto place origin of_bits
in_the_solid = inside tt
