-- WHAT THE BOX QUERY ANSWERS IS TRUE OF THE SECTION'S EDGES: of every section and every box that is not turned down, at both
-- reaches. And of a sound section it is true of the solid, by no more.
use Prim.Native.Nat.{◌<◌, ℕ}
use mathlib.Core.Bool.{◌||◌, Bool, false, not, true}
use mathlib.Core.List.{◌++◌, ◌∷◌, [], List}
use mathlib.Core.Path.{◌≡◌}
use lib.Dec.{leb→le, T}
use lib.Ieee.{binary64, Float, nan}
use lib.ListN.{get_or, length}
use Rattle.arith.specs.F64.{◌≺◌}
use Rattle.arith.proofs.roots.Rounding.KeyOrder.{nlt→key}
use Rattle.section.specs.profile.Refusals.{axis_tests, bounds_tests, box_numbers, box_tests, refusal}
use Rattle.section.specs.profile.Replies.{OfValue}
use Rattle.section.specs.declared.profile.shapes.Aabb.{Aabb}
use Rattle.section.specs.declared.profile.shapes.CollisionHit.{CollisionHit}
use Rattle.section.proofs.profile.Each.{All, all_first, all_rest, cons, nil}
use Rattle.section.proofs.profile.Refusals.Ordered.{Passes}
use Rattle.section.proofs.profile.Refusals.Passed.{taken}
use Rattle.section.proofs.profile.Replies.{of_reply}
use Rattle.section.specs.boxes.Boxes.{box_distance}
use Rattle.section.specs.Answers.{box_answer}
use Rattle.truth.specs.Exact.{units}
use Rattle.truth.specs.Points.{full, Held, metre, Reach, WithinReach}
use Rattle.truth.specs.Solid.{sound}
use Rattle.truth.specs.Boxes.{box_loss, ClearOfBox, InSolid, OnEdges}
use Rattle.truth.proofs.Points.Accepted.{In, in_bounded, in_number, numbers_in, unit_of, vertices_in}
use Rattle.truth.proofs.Boxes.Sections.{box_limit, box_metre, NeverOver, Placed, Vertices}
use Rattle.truth.proofs.Boxes.SolidSections.{plain_within, solid_reach}

-- at both reaches
box_reach : (m : Reach) (s : List Float) → Vertices (unit_of m) s → (x : Aabb) → Placed (unit_of m) x → NeverOver (box_loss m) s x
box_reach full = box_limit
box_reach metre = box_metre

neither : (a b : Bool) → T (not (a || b)) → T (not a) × T (not b)
neither true b h = absurd h
neither false b h = (tt, h)

-- a box that is not turned down
pub box_placed : (m : Reach) (x : Aabb) → ((k : ℕ) → k < length (box_numbers x) → In m (get_or (box_numbers x) k nan))
    → All Passes (bounds_tests x) → Placed (unit_of m) x
box_placed m x N (cons h nil) =
    let z0 = N 0 (leb→le _ _ tt) in
    let z1 = N 1 (leb→le _ _ tt) in
    let r0 = N 2 (leb→le _ _ tt) in
    let r1 = N 3 (leb→le _ _ tt) in
    let o = neither (x.z1 ≺ x.z0) (x.r1 ≺ x.r0) h in
    record {
      boxed = record { z0 = in_bounded m z0; z1 = in_bounded m z1; r0 = in_bounded m r0; r1 = in_bounded m r1 };
      z_order = nlt→key binary64 x.z1 x.z0 (in_number m z1) (in_number m z0) o.0;
      r_order = nlt→key binary64 x.r1 x.r0 (in_number m r1) (in_number m r0) o.1;
    }

-- what a call that is not turned down is given
pub record Given (m : Reach) (s : List Float) (x : Aabb) : Type 0 where
  pub vertices : Vertices (unit_of m) s
  pub placed : Placed (unit_of m) x

module _ (m : Reach) (s : List Float) (x : Aabb) (S : Held s) (X : Held (box_numbers x)) (S' : WithinReach m s)
    (X' : WithinReach m (box_numbers x)) where
  -- whatever other numbers are given with it
  pub box_given : (extra : List Float) → refusal (box_tests s x extra []) ≡ 0 → Given m s x
  box_given extra e =
      let t = taken 3 256 (s ∷ []) (s ++ (box_numbers x ++ extra)) (axis_tests s ++ bounds_tests x) tt e in
      let A = all_first (box_numbers x) extra (all_rest s (box_numbers x ++ extra) t.numbers) in
      record {
        vertices = vertices_in m s (numbers_in m s S S' (all_first s (box_numbers x ++ extra) t.numbers));
        placed = box_placed m x (numbers_in m (box_numbers x) X X' A) (all_rest (axis_tests s) (bounds_tests x) t.rest_passes);
      }

  -- THE REPORTED DISTANCE exceeds the distance between no point of the box and no point of an edge by more than box_loss
  pub box_answer_true : OfValue (λ (h : CollisionHit). ClearOfBox (box_loss m) (units h.distance) x (OnEdges s)) (box_answer s x)
  unfolding box_answer
  box_answer_true = of_reply _ (refusal (box_tests s x [] [])) (box_distance s x)
      (λ e. let g = box_given [] e in box_reach m s g.vertices x g.placed)

  -- CLEAR MEANS CLEAR OF THE SOLID: of a sound section it exceeds the distance between no point of the box and no point of the
  -- solid by more than that
  pub box_solid : T (sound s)
      → OfValue (λ (h : CollisionHit). ClearOfBox (box_loss m) (units h.distance) x (InSolid s)) (box_answer s x)
  unfolding box_answer
  box_solid h = of_reply _ (refusal (box_tests s x [] [])) (box_distance s x)
      (λ e. let g = box_given [] e in solid_reach m s g.vertices x g.placed (plain_within m s g.vertices h))
