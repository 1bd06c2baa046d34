-- What a box distance need not read: the gap, where a vertex lies well inside or a probe is deeper than 1e-9; the edges' clips,
-- where the gap is above 0. By the laws of the first smallest, and by induction over the vertices.
use Prim.Native.Nat.{ℕ, zero, suc, ◌<◌}
use mathlib.Core.Bool.{Bool, true, false, not, ◌||◌, cond}
use mathlib.Core.List.{List}
use mathlib.Core.Path.{◌≡◌, ap, refl, sym, subst, ◌∙◌}
use native.Mathlib.Omega.{arith}
use lib.Dec.{T}
use Rattle.std.specs.Prelude.{Option, None, Some}
use lib.Ieee.{Float, binary64, lt, neg, of_bits}
use Rattle.arith.specs.F64.{◌≺◌, 𝟘, ∞, e_9}
use Rattle.arith.proofs.Laws.OrderHeld.{true→T, lt_trans_held, number_held}
use Rattle.arith.proofs.Laws.Sizes.{e_9_finite, finite_number_lem, neg_finite, zero_number}
use Rattle.section.specs.profile.Vertices.{on, hit, count, vertex_at, end_at, edge_at, any, nearer, nearest_of, upto}
use Rattle.section.specs.declared.profile.shapes.Aabb.{Aabb}
use Rattle.section.specs.declared.profile.shapes.CollisionHit.{CollisionHit}
use Rattle.section.specs.declared.profile.shapes.Witness.{Witness}
use Rattle.section.specs.declared.segments.shapes.Part.{Part}
use Rattle.section.proofs.profile.Nearest.{every, none_nearer}
use Rattle.section.proofs.profile.Numbers.{Held, NumberHit, infinite, nearest_number}
use Rattle.section.specs.segments.Clip.{clip}
use Rattle.section.specs.points.Overlap.{result_of}
use Rattle.section.specs.points.Points.{point_distance}
use Rattle.section.proofs.points.Numbers.{point_number}
use Rattle.section.specs.boxes.Boxes.{box_distance, box_gap, box_holds, box_penetration, box_witness, edge_box, probe}
use Rattle.section.specs.boxes.Boxes.{segment_through_interior, strictly_inside_aabb}
use Rattle.section.specs.boxes.Steps.{box_apart}
use Rattle.section.proofs.boxes.Held.{edge_held}
use Rattle.section.proofs.ranges.Nearest.{nearest_shift}

-- ---- parts of a result
hits : {d e : Float} {w v : Witness} → d ≡ e → w ≡ v → hit d w ≡ hit e v
hits p q = rw (p, q)

same_result : {p q : Float} {t u : Bool} → p ≡ q → t ≡ u → (g : Float) → result_of p t g ≡ result_of q u g
same_result i e g = rw (i, e)

overlapping : {p q : Float} {t : Bool} → p ≡ q → true ≡ t → (g h : Float) → result_of p true g ≡ result_of q t h
unfolding result_of
overlapping i e g h = rw (i, ← e)

deep_result : {p q : Float} → p ≡ q → (p ≺ neg e_9) ≡ true → (t : Bool) (g : Float) → p ≡ result_of q t g
unfolding result_of
deep_result i d t g = rw (← i, d)

module _ (s : List Float) (x : Aabb) where
  -- ---- the penetration, from another witness
  abbrev at_probe : ℕ → CollisionHit
  at_probe k = point_distance s (probe x k)

  probe_held : (k : ℕ) → Held (at_probe k)
  probe_held k = number_held binary64 (at_probe k).distance (point_number s (probe x k))

  zeros : (w v : Witness) → nearer (hit 𝟘 w) (hit 𝟘 v) ≡ hit 𝟘 w
  unfolding lt of_bits
  zeros w v = refl

  other_start : (w v : Witness) → nearer (hit 𝟘 w) (box_penetration s x v) ≡ box_penetration s x w
  unfolding box_penetration
  other_start w v =
      sym (nearest_shift at_probe probe_held w (hit 𝟘 w) (hit 𝟘 v) (number_held binary64 𝟘 zero_number) zero_number 5)
      ∙ ap (λ (h : CollisionHit). nearest_of at_probe h 5) (zeros w v)

  same_depth : (w v : Witness) → (box_penetration s x w).distance ≡ (box_penetration s x v).distance
  same_depth w v =
      ap (λ (h : CollisionHit). h.distance) (sym (other_start w v))
      ∙ either ((box_penetration s x v).distance ≺ 𝟘)
      ∙ ap (λ (h : CollisionHit). h.distance) (other_start v v)
    where
      either : (t : Bool) → (cond t (box_penetration s x v) (hit 𝟘 w)).distance ≡ (cond t (box_penetration s x v) (hit 𝟘 v)).distance
      either true = refl
      either false = refl

  depth_number : (w : Witness) → NumberHit (box_penetration s x w)
  unfolding box_penetration
  depth_number w = nearest_number at_probe (hit 𝟘 w) 5 zero_number probe_held

  below_zero : (neg e_9 ≺ 𝟘) ≡ true
  unfolding lt neg of_bits
  below_zero = refl

  same_deep : (w v : Witness) → ((box_penetration s x v).distance ≺ neg e_9) ≡ true → box_penetration s x w ≡ box_penetration s x v
  same_deep w v e =
      sym (other_start w v) ∙ rw (lt_trans_held binary64 (box_penetration s x v).distance (neg e_9) 𝟘 deep_held
      (number_held binary64 𝟘 zero_number) (number_held binary64 (neg e_9) (finite_number_lem (neg_finite e_9_finite))) e below_zero)
    where
      deep_held : Held (box_penetration s x v)
      deep_held = number_held binary64 (box_penetration s x v).distance (depth_number v)

  -- ---- the vertices well inside
  abbrev inside : ℕ → Bool
  inside k = strictly_inside_aabb x (vertex_at s k)

  abbrev last : Witness → ℕ → Witness
  last w n = upto (λ k at. cond (inside k) (on k (vertex_at s k)) at) w n

  none_inside : (w : Witness) (n : ℕ) → any inside n ≡ false → last w n ≡ w
  unfolding any upto
  none_inside w zero e = refl
  none_inside w (suc n) e = go (any inside n) (inside n) e (none_inside w n)
    where
      go : (p q : Bool) → (p || q) ≡ false → (p ≡ false → last w n ≡ w) → cond q (on n (vertex_at s n)) (last w n) ≡ w
      go true q e f = absurd (true→T (sym e))
      go false true e f = absurd (true→T (sym e))
      go false false e f = f refl

  some_inside : (w v : Witness) (n : ℕ) → any inside n ≡ true → last w n ≡ last v n
  unfolding any upto
  some_inside w v zero e = absurd (true→T e)
  some_inside w v (suc n) e = go (any inside n) (inside n) e (some_inside w v n)
    where
      go : (p q : Bool) → (p || q) ≡ true → (p ≡ true → last w n ≡ last v n)
          → cond q (on n (vertex_at s n)) (last w n) ≡ cond q (on n (vertex_at s n)) (last v n)
      go p true e f = refl
      go true false e f = f refl
      go false false e f = absurd (true→T e)

  -- ---- the edges' clips
  abbrev through : ℕ → Bool
  through k = segment_through_interior x (vertex_at s k) (end_at s k)

  none_through : (n : ℕ) → ((k : ℕ) → k < n → through k ≡ false) → any through n ≡ false
  unfolding any
  none_through zero h = refl
  none_through (suc n) h = rw (none_through n (λ k l. h k (omega arith)), h n (omega arith))

  clipped : (k : ℕ) (c : Part) → clip x (vertex_at s k) (end_at s k) ≡ Some c → (edge_box x (edge_at s k)).distance ≡ 𝟘
  unfolding edge_box
  clipped k c h = rw h

  not_clipped : (k : ℕ) → clip x (vertex_at s k) (end_at s k) ≡ None → through k ≡ false
  unfolding segment_through_interior
  not_clipped k h = rw h

  gap_least : (k : ℕ) → k < count s → T (not ((edge_box x (edge_at s k)).distance ≺ (box_gap s x).distance))
  unfolding box_gap
  gap_least k l =
      none_nearer every (λ j. edge_box x (edge_at s j)) (hit ∞ (on 0 (vertex_at s 0))) infinite
      (λ j. edge_held x (edge_at s j)) (count s) k l tt

  pub apart : (𝟘 ≺ (box_gap s x).distance) ≡ true → any through (count s) ≡ false
  apart e = none_through (count s) (λ k l. go k l (clip x (vertex_at s k) (end_at s k)) refl)
    where
      go : (k : ℕ) → k < count s → (o : Option Part) → clip x (vertex_at s k) (end_at s k) ≡ o → through k ≡ false
      go k l (Some c) h =
          absurd (subst (λ (t : Bool). T (not t)) e
          (subst (λ (d : Float). T (not (d ≺ (box_gap s x).distance))) (clipped k c h) (gap_least k l)))
      go k l None h = not_clipped k h

  -- ---- the distance
  holds_vertex : any inside (count s) ≡ true → box_holds s x ≡ true
  unfolding box_holds
  holds_vertex e = rw e

  holds_edge : any inside (count s) ≡ false → box_holds s x ≡ any through (count s)
  unfolding box_holds
  holds_edge e = rw e

  -- a vertex lies well inside: any start of the search will do, and any gap
  pub box_within : (w : Witness) (g : Float) → any inside (count s) ≡ true
      → hit (result_of (box_penetration s x w).distance true g) (box_witness s x w) ≡ box_distance s x
  unfolding box_distance box_witness
  box_within w g e =
      hits (overlapping (same_depth w (box_gap s x).witness) (sym (holds_vertex e)) g (box_gap s x).distance)
      (some_inside w (box_penetration s x (box_gap s x).witness).witness (count s) e)

  -- a probe is deep
  pub box_deep : (w : Witness) → any inside (count s) ≡ false → ((box_penetration s x w).distance ≺ neg e_9) ≡ true
      → box_penetration s x w ≡ box_distance s x
  unfolding box_distance box_witness
  box_deep w e d =
      let i = same_deep (box_gap s x).witness w d in
      hits (deep_result (ap (λ (h : CollisionHit). h.distance) (sym i)) d (box_holds s x) (box_gap s x).distance)
      (ap (λ (h : CollisionHit). h.witness) (sym i)
      ∙ sym (none_inside (box_penetration s x (box_gap s x).witness).witness (count s) e))

  -- neither
  pub box_apart_lem : {deep : CollisionHit} (w : Witness) → deep ≡ box_penetration s x w → any inside (count s) ≡ false
      → box_apart s x deep ≡ box_distance s x
  unfolding box_distance box_witness box_apart
  box_apart_lem {deep} w i e =
      let f = ap (nearer (hit 𝟘 (box_gap s x).witness)) i ∙ other_start (box_gap s x).witness w in
      hits (same_result (ap (λ (h : CollisionHit). h.distance) f) (sym (holds_edge e)) (box_gap s x).distance)
      (ap (λ (h : CollisionHit). h.witness) f
      ∙ sym (none_inside (box_penetration s x (box_gap s x).witness).witness (count s) e))
