-- Which edge supplies the witness of a box: the gap's, a probe's, or the one that starts at a vertex more than 1e-9 inside. By the
-- laws of the first smallest, and for the vertices by induction over them.
use Prim.Native.Nat.{ℕ, zero, suc, ◌≤◌, ◌<◌}
use native.Mathlib.Nat.{eq-or-lt_of_le, le_refl}
use native.Mathlib.Omega.{arith}
use mathlib.Core.Bool.{not, cond}
use mathlib.Core.List.{List}
use mathlib.Core.Logic.{inl, inr}
use mathlib.Core.Path.{◌≡◌, ap, refl, subst, ◌∙◌}
use lib.Dec.{T}
use lib.Ieee.{Float}
use Rattle.arith.specs.F64.{◌≺◌, 𝟘, ∞}
use Rattle.section.specs.profile.Vertices.{on, hit, count, vertex_at, end_at, edge_at, nearer, upto}
use Rattle.section.specs.declared.profile.shapes.Aabb.{Aabb}
use Rattle.section.specs.declared.profile.shapes.CollisionHit.{CollisionHit}
use Rattle.section.specs.declared.profile.shapes.Edge.{Edge}
use Rattle.section.specs.declared.profile.shapes.Witness.{Witness}
use Rattle.section.proofs.profile.Nearest.{every, Source, source, start, Supplied, supplied, taken}
use Rattle.section.proofs.profile.Numbers.{infinite}
use Rattle.section.proofs.profile.Steps.{pick, pick_some, upto_keeps}
use Rattle.section.specs.segments.Clip.{clip}
use Rattle.section.specs.segments.Segments.{segments}
use Rattle.section.specs.points.Points.{point_distance}
use Rattle.section.specs.boxes.Boxes.{box_distance, box_gap, box_penetration, box_witness, corners, edge_box, probe, strictly_inside_aabb}
use Rattle.section.proofs.boxes.Held.{edge_held}

-- ---- the gap: every edge counts
own : (x : Aabb) (e : Edge) → (edge_box x e).witness.edge ≡ e.number
unfolding edge_box segments
own x e =
    pick_some Own (clip x e.a e.b) (λ c h. refl)
    (λ h. upto_keeps Own (λ k best. nearer best (side k)) (hit ∞ (on e.number e.a)) 4 refl
    (λ k l b B. pick Own ((side k).distance ≺ b.distance) {x = side k} {y = b} (λ h. refl) (λ h. B)))
  where
    Own : CollisionHit → Type 0
    Own h = h.witness.edge ≡ e.number

    side : ℕ → CollisionHit
    side k = segments e (vertex_at (corners x) k) (end_at (corners x) k)

pub gap_edge : (s : List Float) (x : Aabb)
    → Supplied every (λ k. edge_box x (edge_at s k)) (hit ∞ (on 0 (vertex_at s 0))) (count s) (box_gap s x)
unfolding box_gap
gap_edge s x =
    supplied every (λ k. edge_box x (edge_at s k)) (hit ∞ (on 0 (vertex_at s 0))) infinite
    (λ k. edge_held x (edge_at s k)) (λ k. own x (edge_at s k)) (count s)

-- ---- the whole distance
-- No vertex of the section before n, from k on, lies well inside the box.
abbrev pub NoneInside : List Float → Aabb → ℕ → ℕ → Type 0
NoneInside s x k n = (j : ℕ) → k ≤ j → j < n → T (not (strictly_inside_aabb x (vertex_at s j)))

-- Where the witness w of the section s and the box x comes from: the gap, probe i, or vertex k, the last well inside, with the
-- edge that starts there.
pub data BoxWitness (s : List Float) (x : Aabb) (w : Witness) : Type 0 where
  of_gap : w ≡ (box_gap s x).witness → NoneInside s x 0 (count s) → BoxWitness s x w
  of_probe : (i : ℕ) → i < 5 → w ≡ (point_distance s (probe x i)).witness → NoneInside s x 0 (count s) → BoxWitness s x w
  of_vertex : (k : ℕ) → k < count s → T (strictly_inside_aabb x (vertex_at s k)) → w ≡ on k (vertex_at s k)
      → NoneInside s x (suc k) (count s) → BoxWitness s x w

-- the same of the vertices below n, w the witness before them
data Last (s : List Float) (x : Aabb) (w : Witness) (n : ℕ) (v : Witness) : Type 0 where
  kept : v ≡ w → NoneInside s x 0 n → Last s x w n v
  inside : (k : ℕ) → k < n → T (strictly_inside_aabb x (vertex_at s k)) → v ≡ on k (vertex_at s k) → NoneInside s x (suc k) n
      → Last s x w n v

module _ (s : List Float) (x : Aabb) where
  one_more : {k : ℕ} (n : ℕ) → T (not (strictly_inside_aabb x (vertex_at s n))) → NoneInside s x k n → NoneInside s x k (suc n)
  one_more n t none j l m = elim (eq-or-lt_of_le m) [
    | inl e ↦ let i : n ≡ j = omega (arith, e) in subst (λ (z : ℕ). T (not (strictly_inside_aabb x (vertex_at s z)))) i t
    | inr h ↦ none j l (omega arith)
  ]

  last_of : (w : Witness) (n : ℕ)
      → Last s x w n (upto (λ k at. cond (strictly_inside_aabb x (vertex_at s k)) (on k (vertex_at s k)) at) w n)
  unfolding upto
  last_of w zero = kept refl (λ j l m. let c : ⊥ = omega arith in absurd c)
  last_of w (suc n) =
      pick (Last s x w (suc n)) (strictly_inside_aabb x (vertex_at s n))
      (λ t. inside n (le_refl (suc n)) t refl (λ j l m. let c : ⊥ = omega arith in absurd c)) (later (last_of w n))
    where
      later : {v : Witness} → Last s x w n v → T (not (strictly_inside_aabb x (vertex_at s n))) → Last s x w (suc n) v
      later (kept e none) t = kept e (one_more n t none)
      later (inside k l i e none) t = inside k (omega arith) i e (one_more n t none)

  of_deep : {w v : Witness} {h : CollisionHit} → w ≡ h.witness → v ≡ w
      → Source every (λ i. point_distance s (probe x i)) (hit 𝟘 (box_gap s x).witness) 5 h
      → NoneInside s x 0 (count s) → BoxWitness s x v
  of_deep i j (start e) none = of_gap (j ∙ i ∙ ap (λ (h : CollisionHit). h.witness) e) none
  of_deep i j (taken k l c e won) none = of_probe k l (j ∙ i ∙ ap (λ (h : CollisionHit). h.witness) e) none

  pub box_witness_lem : BoxWitness s x (box_distance s x).witness
  unfolding box_distance box_penetration box_witness
  box_witness_lem =
      elim (last_of (box_penetration s x (box_gap s x).witness).witness (count s)) [
        | kept e none ↦
            of_deep refl e (source every (λ i. point_distance s (probe x i)) (hit 𝟘 (box_gap s x).witness) 5) none
        | inside k l i e none ↦ of_vertex k l i e none
      ]
