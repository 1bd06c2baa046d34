-- Demand 1: a query's hit has what `Bounded` asks; at a point or a sphere, what `BoundedOffAxis` asks. For every input.
use Prim.Native.Nat.{ℕ}
use mathlib.Core.List.{List, [], ◌∷◌, ◌++◌}
use mathlib.Core.Path.{◌≡◌}
use native.Mathlib.Nat.{lt_of_lt_of_le}
use lib.Dec.{T, leb}
use lib.Ieee.{Float}
use Rattle.arith.specs.declared.vector.Vec3.{Vec3}
use Rattle.section.specs.Answers.{box_answer, convex_answer, point_answer, sphere_answer}
use Rattle.section.specs.boxes.Boxes.{box_distance}
use Rattle.section.specs.convex.Convex.{convex_distance}
use Rattle.section.specs.Demand.{Bounded, BoundedOffAxis, AtMost, FewEdges}
use Rattle.section.specs.points.Points.{meridian, point_distance, sphere_distance}
use Rattle.section.specs.profile.Refusals.{axis_tests, box_numbers, box_tests, bounds_tests, convex_tests, point_numbers, point_tests, radius_tests}
use Rattle.section.specs.profile.Refusals.{Test, refusal, sphere_numbers, sphere_tests}
use Rattle.section.specs.profile.Steps.{numbered}
use Rattle.section.specs.profile.Replies.{OfValue}
use Rattle.section.proofs.profile.Refusals.Passed.{NumberTaken, ShapeTaken, taken}
use Rattle.section.proofs.profile.Replies.{of_reply}
use Rattle.section.specs.declared.profile.shapes.Aabb.{Aabb}
use Rattle.section.specs.declared.profile.shapes.CollisionHit.{CollisionHit}
use Rattle.section.specs.declared.profile.shapes.Sphere.{Sphere}
use Rattle.section.specs.profile.Vertices.{count}
use Rattle.section.proofs.Demand.Accepted.{section_taken, taken_vertices}
use Rattle.section.proofs.Demand.Bounds.{finite_at_most}
use Rattle.section.proofs.Demand.Boxes.{box_at_most}
use Rattle.section.proofs.Demand.Convex.{convex_at_most}
use Rattle.section.proofs.Demand.Hits.{best_number, best_witness, BoxAtMost, HitAtMost, VerticesAtMost}
use Rattle.section.proofs.profile.Each.{All, all_first, all_rest, cons, nil}
use Rattle.section.proofs.Demand.Points.{meridian_at_most, off_axis_best, OffAxisAtMost, point_at_most, sphere_at_most}
use Rattle.section.proofs.Demand.Points.{Vec3AtMost}
use Rattle.section.proofs.Demand.AtMost.{at_most_raise}

pub hit_bounded : {n : ℕ} {s : List Float} {h : CollisionHit} → VerticesAtMost 23 s → HitAtMost n (count s) h → T (leb n 28)
    → Bounded s h
hit_bounded S H t =
    record {
      distance = at_most_raise (finite_at_most H.distance) t;
      z = H.witness.z;
      r = H.witness.r;
      edge = H.witness.edge;
      few = S.few;
    }

pub hit_bounded_off_axis : {n : ℕ} {s : List Float} {h : CollisionHit} → VerticesAtMost 23 s → OffAxisAtMost n s h
    → T (leb n 28) → BoundedOffAxis s h
hit_bounded_off_axis S H t =
    let B = off_axis_best S H in
    record {
      number = best_number B;
      finite = λ g. at_most_raise (finite_at_most (H.off g).distance) t;
      infinite = H.on;
      z = (best_witness B).z;
      r = (best_witness B).r;
      edge = (best_witness B).edge;
      few = S.few;
    }

-- every hit's edge is one of at most 256
pub bounded_few : {s : List Float} (h : CollisionHit) → Bounded s h → FewEdges h
bounded_few h B = lt_of_lt_of_le B.edge B.few

pub bounded_off_axis_few : {s : List Float} (h : CollisionHit) → BoundedOffAxis s h → FewEdges h
bounded_off_axis_few h B = lt_of_lt_of_le B.edge B.few

vec3_at_most : {p : Vec3} {rest : List Float} → All (AtMost 20) (p.x ∷ p.y ∷ p.z ∷ rest) → Vec3AtMost 20 p
vec3_at_most (cons x (cons y (cons z h))) = record { x = x; y = y; z = z }

radius_at_most : {p : Vec3} {radius : Float} → All (AtMost 20) (point_numbers p ++ (radius ∷ [])) → AtMost 20 radius
radius_at_most (cons x (cons y (cons z (cons r h)))) = r

box_numbers_lem : {x : Aabb} → All (AtMost 20) (x.z0 ∷ x.z1 ∷ x.r0 ∷ x.r1 ∷ []) → BoxAtMost 23 x
box_numbers_lem (cons a (cons b (cons c (cons d h)))) =
    record { z0 = at_most_raise a tt; z1 = at_most_raise b tt; r0 = at_most_raise c tt; r1 = at_most_raise d tt }

-- ---- the four queries
pub point_demand : (s : List Float) (p : Vec3) → OfValue (BoundedOffAxis s) (point_answer s p)
unfolding point_answer
point_demand s p =
    of_reply (BoundedOffAxis s) (refusal (point_tests s p)) (point_distance s (meridian p))
    (λ e. let A = section_taken s (point_numbers p) [] [] [] tt e in
    hit_bounded_off_axis A.section (point_at_most A.section (meridian_at_most (vec3_at_most A.body))) tt)

-- whatever else is given, and whatever the settings
module _ (s extra : List Float) (settings : List Test) where
  pub sphere_bounded : (b : Sphere) → T (numbered (settings ++ (axis_tests s ++ radius_tests b.radius)))
      → refusal (sphere_tests s b extra settings) ≡ 0 → BoundedOffAxis s (sphere_distance s b)
  sphere_bounded b h e =
      let A = section_taken s (sphere_numbers b) extra settings (radius_tests b.radius) h e in
      hit_bounded_off_axis A.section (sphere_at_most A.section (vec3_at_most A.body) (radius_at_most A.body)) tt

  pub box_bounded : (x : Aabb) → T (numbered (settings ++ (axis_tests s ++ bounds_tests x))) → refusal (box_tests s x extra settings) ≡ 0
      → Bounded s (box_distance s x)
  box_bounded x h e =
      let A = section_taken s (box_numbers x) extra settings (bounds_tests x) h e in
      hit_bounded A.section (box_at_most A.section (box_numbers_lem A.body)) tt

pub sphere_demand : (s : List Float) (b : Sphere) → OfValue (BoundedOffAxis s) (sphere_answer s b)
unfolding sphere_answer
sphere_demand s b =
    of_reply (BoundedOffAxis s) (refusal (sphere_tests s b [] [])) (sphere_distance s b) (sphere_bounded s [] [] b tt)

pub box_demand : (s : List Float) (x : Aabb) → OfValue (Bounded s) (box_answer s x)
unfolding box_answer
box_demand s x = of_reply (Bounded s) (refusal (box_tests s x [] [])) (box_distance s x) (box_bounded s [] [] x tt)

pub convex_demand : (c s : List Float) → OfValue (Bounded s) (convex_answer c s)
unfolding convex_answer
convex_demand c s =
    of_reply (Bounded s) (refusal (convex_tests c s [])) (convex_distance c s)
    (λ e. let t = taken 3 256 (c ∷ s ∷ []) (c ++ (s ++ [])) (axis_tests s) tt e in
    both t.shapes (all_first c (s ++ []) t.numbers) (all_first s [] (all_rest c (s ++ []) t.numbers)))
  where
    both : All (ShapeTaken 3 256) (c ∷ s ∷ []) → All NumberTaken c → All NumberTaken s → Bounded s (convex_distance c s)
    both (cons h (cons k nil)) C S =
        let K = taken_vertices k S in hit_bounded K (convex_at_most (taken_vertices h C) K) tt
