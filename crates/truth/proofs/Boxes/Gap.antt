-- 01'S BOX DISTANCE from its edges' distances: the gap is the least of them, and the result is the gap or at most 0. So what
-- exceeds the exact distance to no edge by more than η holds of the box distance: the field never-over of specs/Cylinders'
-- BoxTrue, of the points of edges.
use Prim.Native.Nat.{◌*◌, ◌+◌, ◌-◌, ◌<◌, ℕ, ◌≤◌}
use mathlib.Core.Bool.{Bool, false, true}
use mathlib.Core.List.{List}
use mathlib.Core.Path.{◌≡◌}
use native.Mathlib.Nat.{le_of_eq, le_trans}
use native.Mathlib.Omega.{arith}
use lib.Dec.{leb→le, T}
use lib.Ieee.{binary64, fin, Float, inf, lt, nan, neg, of_bits}
use Rattle.arith.proofs.roots.Rounding.Key.{key, magnitude, mid, number, unit}
use Rattle.arith.specs.F64.{◌≺◌, ◌≼◌, 𝟘, ∞, e_8, e_9, e_12}
use Rattle.arith.proofs.Laws.Hypot.{inf_number}
use Rattle.arith.proofs.Laws.Sizes.{K, M, zero_key}
use Rattle.section.proofs.profile.Steps.{pick}
use Rattle.section.specs.profile.Vertices.{count, edge_at, end_at, hit, on, vertex_at}
use Rattle.section.specs.declared.profile.shapes.Aabb.{Aabb}
use Rattle.section.specs.points.Overlap.{result_of}
use Rattle.section.specs.boxes.Boxes.{box_distance, box_gap, box_holds, box_penetration, edge_box}
use Rattle.truth.specs.Exact.{sqd, units}
use Rattle.truth.specs.Boxes.{InBox, OnEdges}
use Rattle.truth.proofs.Places.{origin_is, place_is}
use Rattle.truth.proofs.Points.Lagrange.{sqd_comm}
use Rattle.truth.proofs.Boxes.EdgeBox.{BoxFar, far_less, Least, nearest_least}
use Rattle.truth.proofs.Boxes.Outline.{Far}

-- ---- the result is at most the gap, or negative
units_key : (x : Float) → units x ≡ K x - M
units_key x = rw (place_is x, origin_is)

-- what a float is below -1e-9 is not positive, whether f64 holds it or not
below_zero : (x : Float) → T (x ≺ neg e_9) → K x ≤ M
unfolding lt neg of_bits key
below_zero nan h = absurd h
below_zero (inf false) h = absurd h
below_zero (inf true) h = go M (magnitude binary64 (inf true))
  where
    go : (m k : ℕ) → m - k ≤ m
    go m k = omega arith
below_zero (fin false m e) h = absurd h
below_zero (fin true m e) h = go M (magnitude binary64 (fin true m e))
  where
    go : (m k : ℕ) → m - k ≤ m
    go m k = omega arith

not_positive : (x : Float) (w : ℕ) → K x ≤ M → units x ≤ w
not_positive x w h = le_trans (le_of_eq (units_key x)) (go (K x) M h)
  where
    go : (k m : ℕ) → k ≤ m → k - m ≤ w
    go k m h = omega arith

pub result_at_most : (penetration : Float) (overlaps : Bool) (gap : Float) → units (result_of penetration overlaps gap) ≤ K gap - M
unfolding result_of
result_at_most penetration overlaps gap =
    pick Less (penetration ≺ neg e_9) (λ h. not_positive penetration (K gap - M) (below_zero penetration h))
    (λ h. pick Less overlaps (λ k. not_positive (neg e_8) (K gap - M) low)
    (λ k. pick Less (gap ≼ e_12) (λ l. not_positive 𝟘 (K gap - M) (le_of_eq zero_key)) (λ l. le_of_eq (units_key gap))))
  where
    Less : Float → Type 0
    Less d = units d ≤ K gap - M

    low : K (neg e_8) ≤ M
    low = unfold mid key magnitude unit of_bits neg in leb→le _ _ tt

-- ---- the fold over the edges
module _ (η : ℕ) (s : List Float) (x : Aabb) (numbers : (k : ℕ) → k < count s
    → T (number binary64 (edge_box x (edge_at s k)).distance))
    (edges : (k : ℕ) → k < count s → BoxFar (K (edge_box x (edge_at s k)).distance - M - η) (edge_at s k) x) where
  least : Least (λ k. edge_box x (edge_at s k)) (count s) (box_gap s x)
  unfolding box_gap
  least = nearest_least (λ k. edge_box x (edge_at s k)) (hit ∞ (on 0 (vertex_at s 0))) (count s) (inf_number binary64 false) numbers

  box_far : (k : ℕ) → k < count s → BoxFar (units (box_distance s x).distance - η) (edge_at s k) x
  unfolding box_distance
  box_far k l = record {
    proof = λ n E F p m z r z0 z1 r0 r1. far_less _ _ n E F m z r
        (room (result_at_most (box_penetration s x (box_gap s x).witness).distance (box_holds s x) (box_gap s x).distance)
        (least.least k l))
        ((edges k l).proof n E F p m z r z0 z1 r0 r1);
  }
    where
      room : {u a b : ℕ} → u ≤ a - M → a ≤ b → u - η ≤ b - M - η
      room {u} {a} {b} h k = go u a b M η h k
        where
          go : (u a b m η : ℕ) → u ≤ a - m → a ≤ b → u - η ≤ b - m - η
          go u a b m η h k = omega arith

  -- BOX DISTANCE NEVER OVER: of any point of the box and any point of an edge
  pub never_over : (n Z R q z r : ℕ) → InBox x n Z R → OnEdges s q z r
      → n * q * (units (box_distance s x).distance - η) * (n * q * (units (box_distance s x).distance - η))
      ≤ sqd (q * Z) (n * z) + sqd (q * R) (n * r)
  never_over n Z R q z r I O = turn (units (box_distance s x).distance - η)
      ((box_far O.k O.edge).proof q z r (record {
        i = O.i;
        j = O.j;
        parts = O.parts;
        first = rw (place_is (vertex_at s O.k).z, place_is (end_at s O.k).z) at O.at_z;
        second = rw (place_is (vertex_at s O.k).r, place_is (end_at s O.k).r) at O.at_r;
      }) n Z R (rw (place_is x.z0) at I.z_from) (rw (place_is x.z1) at I.z_to) (rw (place_is x.r0) at I.r_from)
      (rw (place_is x.r1) at I.r_to))
    where
      turn : (v : ℕ) → Far v q z r n Z R → n * q * v * (n * q * v) ≤ sqd (q * Z) (n * z) + sqd (q * R) (n * r)
      turn v h = le_trans (le_of_eq (swap n q v))
          (le_trans h (le_of_eq (both (sqd_comm (n * z) (q * Z)) (sqd_comm (n * r) (q * R)))))
        where
          swap : (n q v : ℕ) → n * q * v * (n * q * v) ≡ q * n * v * (q * n * v)
          swap n q v = omega arith

          both : {a b c d : ℕ} → a ≡ b → c ≡ d → a + c ≡ b + d
          both e f = omega arith
