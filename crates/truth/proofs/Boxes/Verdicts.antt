-- A BOX THAT IS JUDGED CLEAR keeps its clearance from the section's edges, and from the solid where the section is sound, but for
-- box_loss: box distance is at least the clearance, but for a rounding and the verdict's own 1e-9, which box_loss has room for.
use Prim.Native.Nat.{◌+◌, ◌-◌, ◌^◌, ℕ, ◌≤◌}
use mathlib.Core.Bool.{false, not}
use mathlib.Core.List.{◌++◌, ◌∷◌, [], List}
use mathlib.Core.Path.{◌≡◌}
use native.Mathlib.Omega.{arith}
use lib.Dec.{lit≤, T}
use lib.Ieee.{binary64, fits, Float}
use Rattle.arith.proofs.roots.Rounding.KeyOrder.{nlt→key}
use Rattle.arith.specs.F64.{◌⊕◌, e_9}
use Rattle.arith.proofs.Laws.Sizes.{add_finite, e_9_finite, Finite, finite_number_lem, finite_raise, held_finite, K, M}
use Rattle.section.specs.profile.Refusals.{axis_tests, bounds_tests, box_numbers, box_tests, refusal}
use Rattle.section.specs.profile.Replies.{value}
use Rattle.section.specs.declared.profile.shapes.Aabb.{Aabb}
use Rattle.section.proofs.profile.Each.{All, all_rest, cons, nil}
use Rattle.section.proofs.profile.Refusals.Passed.{NumberTaken, taken}
use Rattle.section.specs.boxes.Boxes.{box_distance}
use Rattle.section.specs.Demand.{AtMost}
use Rattle.section.proofs.Demand.Accepted.{section_taken, taken_at_most}
use Rattle.section.proofs.Demand.AtMost.{at_most_given, at_most_raise}
use Rattle.section.proofs.Demand.Boxes.{box_at_most}
use Rattle.section.proofs.Demand.Hits.{BoxAtMost}
use Rattle.bodies.specs.declared.shapes.Body.TheVariants.{Box}
use Rattle.bodies.specs.verdicts.Verdicts.{body_verdict, collides}
use Rattle.truth.specs.Exact.{units}
use Rattle.truth.specs.Points.{Held, Reach, WithinReach}
use Rattle.truth.specs.Solid.{sound}
use Rattle.truth.specs.Boxes.{box_loss, ClearOfBox, InSolid, OnEdges}
use Rattle.truth.proofs.Places.{units_is}
use Rattle.truth.proofs.Points.Verdicts.{judged_clear}
use Rattle.truth.proofs.Boxes.Answers.{box_given, Given}
use Rattle.truth.proofs.Boxes.SolidSections.{box_less, edges_tight, plain_within, small, solid_tight, tight, tight_spares}
use Rattle.truth.proofs.Walk.Verdicts.{e_9_small, sum_close}

box_numbers_lem : {x : Aabb} → All (AtMost 20) (box_numbers x) → BoxAtMost 23 x
box_numbers_lem (cons a (cons b (cons c (cons d h)))) =
    record { z0 = at_most_raise a tt; z1 = at_most_raise b tt; r0 = at_most_raise c tt; r1 = at_most_raise d tt }

-- where distance + 1e-9, rounded, is not below the clearance, the clearance is no more than the distance and 2 ^ -23 mm
not_below : {d clearance : Float} → Finite 29 d → Finite 20 clearance → T (not (collides d clearance))
    → units clearance ≤ units d + 2 ^ 1051
not_below {d} {clearance} D C h =
    let l = nlt→key binary64 (d ⊕ e_9) clearance (finite_number_lem (add_finite D e_9_finite tt)) (finite_number_lem C) h in
    rw (units_is d, units_is clearance)
    (go (K clearance) (K (d ⊕ e_9)) (K d) (K e_9) M (2 ^ 1049) (2 ^ 1050) (2 ^ 1051) l (sum_close D).over e_9_small (lit≤ tt))
  where
    go : (c y d n m v w s : ℕ) → c ≤ y → y + m ≤ d + n + w → n ≤ m + v → v + w ≤ s → c - m ≤ d - m + s
    go c y d n m v w s a b e f = omega arith

module _ (m : Reach) (s : List Float) (x : Aabb) (clearance : Float) (S : Held s) (X : Held (box_numbers x))
    (C : T (fits binary64 clearance)) (S' : WithinReach m s) (X' : WithinReach m (box_numbers x))
    (clear : body_verdict s (Box x) clearance ≡ value false) where
  judged : (refusal (box_tests s x (clearance ∷ []) []) ≡ 0) × T (not (collides (box_distance s x).distance clearance))
  judged = unfold body_verdict in
      judged_clear (refusal (box_tests s x (clearance ∷ []) [])) (collides (box_distance s x).distance clearance) clear

  given : Given m s x
  given = box_given m s x S X S' X' (clearance ∷ []) judged.0

  clearance_finite : Finite 20 clearance
  clearance_finite =
      let t = taken 3 256 (s ∷ []) (s ++ (box_numbers x ++ (clearance ∷ []))) (axis_tests s ++ bounds_tests x) tt judged.0 in
      last (all_rest (box_numbers x) (clearance ∷ []) (all_rest s (box_numbers x ++ (clearance ∷ [])) t.numbers))
    where
      last : All NumberTaken (clearance ∷ []) → Finite 20 clearance
      last (cons x nil) = held_finite (at_most_given (taken_at_most clearance x)) C

  distance_finite : Finite 29 (box_distance s x).distance
  distance_finite =
      let A = section_taken s (box_numbers x) (clearance ∷ []) [] (bounds_tests x) tt judged.0 in
      finite_raise (box_at_most A.section (box_numbers_lem A.body)).distance tt

  kept : (ε : ℕ) (Counts : ℕ → ℕ → ℕ → Type 0) → ε + 2 ^ 1051 ≤ box_loss m
      → ClearOfBox ε (units (box_distance s x).distance) x Counts → ClearOfBox (box_loss m) (units clearance) x Counts
  kept ε Counts h = box_less ε (box_loss m) (units (box_distance s x).distance) (units clearance) x Counts
      (go (units (box_distance s x).distance) (units clearance) (2 ^ 1051) (box_loss m)
      (not_below distance_finite clearance_finite judged.1) h)
    where
      go : (w v μ δ : ℕ) → v ≤ w + μ → ε + μ ≤ δ → v - δ ≤ w - ε
      go w v μ δ a b = omega arith

  -- FROM EVERY EDGE
  pub box_verdict_edges : ClearOfBox (box_loss m) (units clearance) x (OnEdges s)
  box_verdict_edges = kept (tight m) (OnEdges s) (less (tight m) small (2 ^ 1051) (box_loss m) (tight_spares m))
      (edges_tight m s given.vertices x given.placed)
    where
      less : (a b c d : ℕ) → a + b + c ≤ d → a + c ≤ d
      less a b c d h = omega arith

  -- CLEAR MEANS CLEAR OF THE SOLID
  pub box_verdict_solid : T (sound s) → ClearOfBox (box_loss m) (units clearance) x (InSolid s)
  box_verdict_solid h = kept (tight m + small) (InSolid s) (tight_spares m)
      (solid_tight m s given.vertices x given.placed (plain_within m s given.vertices h))
