-- What the theorems could not say. With the ends swapped the sign of a zero does differ; negating all z, or the x of one end,
-- changes the distance. Each by an example, computed.
use Prim.Native.Nat.{ℕ}
use mathlib.Core.Bool.{Bool, false, true, true≢false}
use mathlib.Core.List.{List, [], ◌∷◌}
use mathlib.Core.Path.{◌≡◌, ◌∙◌, ap, refl, sym}
use lib.IntN.{pos}
use lib.Ieee.{Float, binary64, of_int, neg, add, sub, mul, div, lt, le, of_bits}
use Rattle.arith.specs.F64.{◌≺◌}
use Rattle.arith.specs.Num.{is_finite}
use Rattle.arith.specs.Vector.{vec}
use Rattle.arith.specs.declared.vector.Vec3.{Vec3}
use Rattle.arith.specs.roots.Roots.{sqrt, hypot}
use Rattle.arith.proofs.roots.Rounding.Key.{negative}
use Rattle.section.specs.profile.Vertices.{any, hit, upto, witness}
use Rattle.section.specs.profile.Refusals.{any_below_axis, any_of, refusal}
use Rattle.section.specs.profile.Replies.{Reply, value, turned_down}
use Rattle.section.specs.segments.Segments.{closest_point, closest, closest_places, segments}
use Rattle.section.specs.segments.Clip.{clip_side, clip}
use Rattle.section.specs.points.Points.{surface_step, surface_near, crosses, point_inside, inside_axis_edge, in_section, point_distance}
use Rattle.section.specs.points.Overlap.{result_of}
use Rattle.section.specs.boxes.Boxes.{edge_box, strictly_inside_aabb, segment_through_interior, box_gap, box_penetration, box_witness}
use Rattle.section.specs.boxes.Boxes.{box_holds, box_distance}
use Rattle.walk.specs.settings.Settings.{finest}
use Rattle.walk.specs.declared.settings.shapes.Settings.{Settings}
use Rattle.walk.specs.bands.Axis.{axis_dir, axis}
use Rattle.walk.specs.bands.Band.{axial_box, band_of, bar, span_at}
use Rattle.walk.specs.declared.bands.shapes.Cylinder.{Cylinder}
use Rattle.walk.specs.Walk.{band_distance}
use Rattle.walk.specs.declared.shapes.CountedHit.{CountedHit}
use Rattle.walk.specs.cylinders.Cylinders.{cylinder_answer, cylinder_distance}
use Rattle.symmetry.specs.Alike.{Alike, same}
use Rattle.symmetry.specs.Moved.{ends_swapped}
use Rattle.symmetry.proofs.Floats.Like.{like_lt}

abbrev mm : ℕ → Float
mm n = of_int binary64 (pos n)

-- (z,10), (20,10), (20,0), (0,0)
abbrev from : Float → List Float
from z = z ∷ mm 10 ∷ mm 20 ∷ mm 10 ∷ mm 20 ∷ mm 0 ∷ mm 0 ∷ mm 0 ∷ []

abbrev point : ℕ → Float → Vec3
point x z = vec (mm x) (mm 0) z

-- one box
abbrev found : Float → Float → Float → ℕ → Reply CountedHit
found d z r edge = value (record { hit = hit d (witness z r edge); boxes = 1; waiting = 0; cut = false })

-- ---- of length 0, from z = +0 to z = -0, beside a section that begins at z = -0: the witness has the first end's sign
abbrev short : Cylinder
short = bar (point 15 (mm 0)) (point 15 (neg (mm 0))) (mm 2)

-- ---- along the spindle, from z = 4 to z = 8; all z negated
abbrev along : Cylinder
along = bar (point 15 (mm 4)) (point 15 (mm 8)) (mm 2)

abbrev mirrored_z : Cylinder → Cylinder
mirrored_z c = bar (mirror_z c.a) (mirror_z c.b) c.radius
  where
    mirror_z : Vec3 → Vec3
    mirror_z p = vec p.x p.y (neg p.z)

-- ---- along X, from x = 12 to x = 20; the x of one end negated
abbrev across : Cylinder
across = bar (point 12 (mm 10)) (point 20 (mm 10)) (mm 0)

abbrev one_end_mirrored : Cylinder → Cylinder
one_end_mirrored c = bar (vec (neg c.a.x) c.a.y c.a.z) c.b c.radius

record Computed : Type 0 where
  pub plus : cylinder_answer (from (neg (mm 0))) short finest ≡ found (mm 3) (mm 0) (mm 10) 0
  pub minus : cylinder_answer (from (neg (mm 0))) (ends_swapped short) finest ≡ found (mm 3) (neg (mm 0)) (mm 10) 0
  pub right : cylinder_answer (from (mm 0)) along finest ≡ found (mm 3) (mm 4) (mm 10) 0
  pub left : cylinder_answer (from (mm 0)) (mirrored_z along) finest ≡ found (mm 5) (mm 0) (mm 10) 0
  pub beside : cylinder_answer (from (mm 0)) across finest ≡ found (mm 2) (mm 10) (mm 10) 0
  pub through : cylinder_answer (from (mm 0)) (one_end_mirrored across) finest ≡ found (neg (mm 10)) (mm 10) (mm 10) 0

computed : Computed
unfolding add sub mul div neg lt le of_int of_bits sqrt hypot is_finite
    upto any closest_point closest closest_places segments surface_step surface_near crosses point_inside inside_axis_edge in_section
    point_distance clip_side clip edge_box strictly_inside_aabb segment_through_interior box_gap box_penetration box_witness box_holds
    result_of box_distance refusal any_of any_below_axis axis_dir axis axial_box band_of span_at band_distance cylinder_distance
    cylinder_answer
computed = record { plus = refl; minus = refl; right = refl; left = refl; beside = refl; through = refl }

-- ---- answers whose distances, or witnesses, compare differently are not alike
abbrev is_above : Float → Reply CountedHit → Bool
is_above x (value h) = x ≺ h.hit.distance
is_above x (turned_down n) = false

alike_above : (x : Float) (a b : Reply CountedHit) → Alike a b → is_above x a ≡ is_above x b
alike_above x (value h) (value k) l = like_lt (same {x = x}) l.hit.distance
alike_above x (value h) (turned_down n) l = absurd l
alike_above x (turned_down n) (value k) l = absurd l
alike_above x (turned_down n) (turned_down m) l = refl

differ : (x : Float) {a b a' b' : Reply CountedHit} → a ≡ a' → b ≡ b' → is_above x a' ≡ true → is_above x b' ≡ false
    → Alike a b → ⊥
differ x {a} {b} p q t f l =
    true≢false (sym t ∙ sym (ap (is_above x) p) ∙ alike_above x a b l ∙ ap (is_above x) q ∙ f)

-- a cylinder whose z are negated may be farther off
pub not_mirrored_z : ((s : List Float) (c : Cylinder) (t : Settings)
    → Alike (cylinder_answer s (mirrored_z c) t) (cylinder_answer s c t)) → ⊥
unfolding lt of_int
not_mirrored_z h = differ (mm 4) computed.left computed.right refl refl (h (from (mm 0)) along finest)

-- one whose one end is mirrored may reach into the section
pub not_one_end : ((s : List Float) (c : Cylinder) (t : Settings)
    → Alike (cylinder_answer s c t) (cylinder_answer s (one_end_mirrored c) t)) → ⊥
unfolding lt of_int neg
not_one_end h = differ (mm 0) computed.beside computed.through refl refl (h (from (mm 0)) across finest)

-- with the ends swapped the sign of a zero may differ, so that not every answer is identical
minus_zero : Reply CountedHit → Bool
minus_zero (value h) = negative h.hit.witness.z
minus_zero (turned_down n) = false

pub not_identical : ((s : List Float) (c : Cylinder) (t : Settings)
    → cylinder_answer s (ends_swapped c) t ≡ cylinder_answer s c t) → ⊥
unfolding of_int neg minus_zero
not_identical h =
    let e = h (from (neg (mm 0))) short finest in
    true≢false (ap minus_zero (sym computed.minus ∙ e ∙ computed.plus))
