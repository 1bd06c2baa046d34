-- THE HYPOTHESES ARE MET at readings of 01, and the theorem says something there; and WITHOUT THE HYPOTHESIS THE SIGN IS NOT
-- TRUE: an input.
use Prim.Native.Nat.{◌+◌, ◌-◌, ◌*◌}
use mathlib.Core.Bool.{false, true}
use mathlib.Core.List.{List, [], ◌∷◌}
use mathlib.Core.Path.{◌≡◌, refl}
use lib.Dec.{T}
use lib.Ieee.{add, binary64, div, eq, fin, fits, Float, le, lt, mul, nan, neg, of_bits, sub}
use lib.IntN.{pos}
use Rattle.arith.specs.F64.{◌≼◌, e_9}
use Rattle.arith.specs.Num.{is_finite}
use Rattle.arith.specs.Vector.{vec}
use Rattle.arith.specs.roots.Roots.{hypot, sqrt}
use Rattle.section.specs.profile.Refusals.{any_below_axis, any_of, refusal, sphere_numbers}
use Rattle.section.specs.profile.Replies.{value}
use Rattle.section.specs.profile.Vertices.{any, ball, hit, upto, vertex, witness}
use Rattle.section.specs.declared.profile.shapes.Sphere.{Sphere}
use Rattle.section.specs.declared.profile.shapes.Vertex.{Vertex}
use Rattle.section.proofs.profile.Each.{All, all_at, cons, nil}
use Rattle.section.specs.segments.Segments.{closest, closest_point}
use Rattle.section.specs.points.Points.{crosses, in_section, inside_axis_edge, point_distance, point_inside, sphere_distance, surface_near}
use Rattle.section.specs.points.Points.{surface_step}
use Rattle.bodies.specs.declared.shapes.Body.TheVariants.{Sphere as Ball}
use Rattle.section.specs.builders.Builder.{keep, kept_points, same_point, section_of}
use Rattle.section.specs.Answers.{point_answer}
use Rattle.section.specs.Demand.{AtMost}
use Rattle.bodies.specs.verdicts.Verdicts.{body_verdict}
use Rattle.truth.specs.Exact.{origin, place}
use Rattle.truth.specs.Points.{full, Held, metre, WithinReach, ε₂}
use Rattle.truth.specs.Solid.{area, ClearOfSolidInSpace, exact_crosses, exact_inside, plain, sound, vertex_inside}
use Rattle.truth.proofs.Sides.Answers.{sphere_verdict_clear}

abbrev zero : Float
zero = of_bits binary64 0

abbrev ten : Float
ten = of_bits binary64 0x4024000000000000

abbrev twenty : Float
twenty = of_bits binary64 0x4034000000000000

abbrev five : Float
five = of_bits binary64 0x4014000000000000

-- ---- section S, and the sphere (0,0,30) of radius 4 beside it with a clearance of 5 mm
abbrev section_s : List Float
section_s = zero ∷ ten ∷ twenty ∷ ten ∷ twenty ∷ zero ∷ zero ∷ zero ∷ []

abbrev sphere : Sphere
sphere = ball (vec zero zero (of_bits binary64 0x403e000000000000)) (of_bits binary64 0x4010000000000000)

held : {l : List Float} → All (λ (x : Float). T (fits binary64 x)) l → Held l
held A k w = all_at A nan k w

section_held : Held section_s
unfolding fits of_bits
section_held = held (cons tt (cons tt (cons tt (cons tt (cons tt (cons tt (cons tt (cons tt nil))))))))

sphere_held : Held (sphere_numbers sphere)
unfolding fits of_bits
sphere_held = held (cons tt (cons tt (cons tt (cons tt nil))))

clear : body_verdict section_s (Ball sphere) five ≡ value false
unfolding add sub mul div neg lt le of_bits sqrt hypot is_finite upto any closest_point closest surface_step surface_near crosses
    point_inside inside_axis_edge
    in_section point_distance sphere_distance refusal any_of any_below_axis body_verdict
clear = refl

section_sound : T (sound section_s)
unfolding sound any lt le eq of_bits
section_sound = tt

pub sphere_clear_of_solid : ClearOfSolidInSpace (ε₂ full) (place five + place sphere.radius - (origin + place e_9)) section_s
    sphere.center
unfolding fits of_bits
sphere_clear_of_solid = sphere_verdict_clear full section_s sphere five section_held sphere_held tt tt tt section_sound clear

-- the same within a metre, where ε₂ is a thousandth of that
within_metre : {l : List Float} → All (AtMost 10) l → WithinReach metre l
within_metre A k w = all_at A nan k w

metre_number : (x : Float) → T (is_finite x) → T (neg (fin false 1 (pos 10)) ≼ x) → T (x ≼ fin false 1 (pos 10)) → AtMost 10 x
metre_number x f l h = record { ends = f; least = l; most = h }

section_metre : WithinReach metre section_s
unfolding is_finite le neg of_bits
section_metre =
    within_metre (cons (metre_number zero tt tt tt) (cons (metre_number ten tt tt tt) (cons (metre_number twenty tt tt tt)
    (cons (metre_number ten tt tt tt) (cons (metre_number twenty tt tt tt) (cons (metre_number zero tt tt tt)
    (cons (metre_number zero tt tt tt) (cons (metre_number zero tt tt tt) nil))))))))

sphere_metre : WithinReach metre (sphere_numbers sphere)
unfolding is_finite le neg of_bits
sphere_metre = within_metre (cons (metre_number zero tt tt tt) (cons (metre_number zero tt tt tt)
    (cons (metre_number sphere.center.z tt tt tt) (cons (metre_number sphere.radius tt tt tt) nil))))

pub sphere_clear_within_metre : ClearOfSolidInSpace (ε₂ metre) (place five + place sphere.radius - (origin + place e_9))
    section_s
    sphere.center
unfolding fits of_bits
sphere_clear_within_metre = sphere_verdict_clear metre section_s sphere five section_held sphere_held tt section_metre sphere_metre
    section_sound clear

-- the middle of S is inside by the exact rule, also as the third part of thrice its places, and the sphere's centre outside
pub middle_inside : vertex_inside section_s (vertex ten five) ≡ true
unfolding exact_inside exact_crosses area place origin of_bits upto
middle_inside = refl

pub third_inside : exact_inside section_s 3 (3 * place ten + 1) (3 * place five + 1) ≡ true
unfolding exact_inside exact_crosses area place origin of_bits upto
third_inside = refl

pub centre_outside : vertex_inside section_s (vertex sphere.center.z zero) ≡ false
unfolding exact_inside exact_crosses area place origin of_bits upto
centre_outside = refl

-- ---- A FLAT STEP: the section (0,1), (20,1), (20,2^-8 + 2^-60), (20.5,2^-8), (20.5,0), (0,0) and the point at z = 10, radius
-- 2^-8, nearly 1 mm inside. The only
-- edge that its line of sight crosses is the third, whose radii differ by 2^-60, less than 1e-18: 01's rule has it that there is
-- no crossing, and the distance reported is positive, 255/256 mm. The test `plain` turns this section down, and so does `sound`.
abbrev stepped : List Float
stepped =
    zero ∷ of_bits binary64 0x3ff0000000000000 ∷ twenty ∷ of_bits binary64 0x3ff0000000000000 ∷ twenty ∷ of_bits binary64
    0x3f70000000000001
    ∷ of_bits binary64 0x4034800000000000 ∷ of_bits binary64 0x3f70000000000000 ∷ of_bits binary64 0x4034800000000000 ∷ zero ∷ zero ∷
    zero ∷ []

abbrev inner : Vertex
inner = vertex ten (of_bits binary64 0x3f70000000000000)

pub step_inside : vertex_inside stepped inner ≡ true
unfolding exact_inside exact_crosses area place origin of_bits upto
step_inside = refl

pub step_reported : (point_distance stepped inner).distance ≡ of_bits binary64 0x3fefe00000000000
unfolding add sub mul div neg lt le of_bits sqrt hypot is_finite upto any closest_point closest surface_step surface_near crosses
    point_inside inside_axis_edge
    in_section point_distance
step_reported = refl

pub step_not_plain : plain stepped ≡ false
unfolding plain any lt le eq sub neg of_bits
step_not_plain = refl

pub step_not_sound : sound stepped ≡ false
unfolding sound any lt le eq of_bits
step_not_sound = refl

-- the builder makes this section of its first four points, and the query does not turn the point down
pub step_built : section_of
    (zero ∷ of_bits binary64 0x3ff0000000000000 ∷ twenty ∷ of_bits binary64 0x3ff0000000000000 ∷ twenty ∷ of_bits binary64
    0x3f70000000000001
    ∷ of_bits binary64 0x4034800000000000 ∷ of_bits binary64 0x3f70000000000000 ∷ []) ≡ stepped
unfolding section_of kept_points keep same_point upto add sub neg lt le of_bits
step_built = refl

pub step_answered : point_answer stepped (vec (of_bits binary64 0x3f70000000000000) zero ten)
    ≡ value (hit (of_bits binary64 0x3fefe00000000000) (witness ten (of_bits binary64 0x3ff0000000000000) 0))
unfolding add sub mul div neg lt le of_bits sqrt hypot is_finite upto any closest_point closest surface_step surface_near crosses
    point_inside inside_axis_edge
    in_section point_distance refusal any_of any_below_axis point_answer
step_answered = refl

-- ---- A SLIT: what 01's axis rule adds. The section (0,0), (20,0), (20,10), (15,10), (15,0), (5,0), (5,10), (0,10) is plain, and
-- the point at z = 10 on the axis
-- is outside, 5 mm from either half; as it lies on an axis edge, -5 is reported. The rule only turns distances negative: it
-- clears nothing.
abbrev fifteen : Float
fifteen = of_bits binary64 0x402e000000000000

abbrev slit : List Float
slit = zero ∷ zero ∷ twenty ∷ zero ∷ twenty ∷ ten ∷ fifteen ∷ ten ∷ fifteen ∷ zero ∷ five ∷ zero ∷ five ∷ ten ∷ zero ∷ ten ∷ []

pub slit_plain : plain slit ≡ true
unfolding plain any lt le eq sub neg of_bits
slit_plain = refl

pub slit_outside : vertex_inside slit (vertex ten zero) ≡ false
unfolding exact_inside exact_crosses area place origin of_bits upto
slit_outside = refl

pub slit_reported : (point_distance slit (vertex ten zero)).distance ≡ neg five
unfolding add sub mul div neg lt le of_bits sqrt hypot is_finite upto any closest_point closest surface_step surface_near crosses
    point_inside inside_axis_edge
    in_section point_distance
slit_reported = refl
