-- Which edge supplies the witness of a convex body: the section's edge of the gap's pair, a convex vertex's, or the one that
-- starts at a section vertex found inside. By the laws of the first smallest, and for the pairs by induction over the convex
-- edges.
use Prim.Native.Nat.{ℕ, suc, ◌<◌}
use native.Mathlib.Nat.{eq-or-lt_of_le, le_refl}
use native.Mathlib.Omega.{arith}
use mathlib.Core.Bool.{Bool, true, false, not}
use mathlib.Core.List.{List}
use mathlib.Core.Logic.{◌⊎◌, inl, inr}
use mathlib.Core.Path.{◌≡◌, ap, refl, subst, sym, ◌∙◌}
use lib.Dec.{T}
use lib.Ieee.{Float}
use Rattle.arith.specs.F64.{◌≺◌, ◌≼◌, 𝟘, ∞}
use Rattle.section.specs.profile.Vertices.{on, hit, count, vertex_at, end_at, edge_at, nearer, nearest_of}
use Rattle.section.specs.declared.profile.shapes.CollisionHit.{CollisionHit}
use Rattle.section.specs.declared.profile.shapes.Witness.{Witness}
use Rattle.section.proofs.profile.Nearest.{every, first_number, none_nearer, start_not_nearer, taken_not_as_near}
use Rattle.section.proofs.profile.Nearest.{Source, source, start, taken}
use Rattle.section.proofs.profile.Numbers.{Held, infinite, NumberHit}
use Rattle.section.proofs.profile.Steps.{pick, upto_keeps, upto_steps}
use Rattle.section.specs.segments.Segments.{segments}
use Rattle.section.proofs.segments.Held.{segments_held}
use Rattle.section.specs.points.Points.{point_distance}
use Rattle.section.proofs.convex.Outside.{below_low, convex_outside, zero_low}
use Rattle.section.specs.convex.Convex.{convex_distance, convex_gap, convex_penetration, convex_row}
use Rattle.section.specs.convex.Convex.{point_in_convex, signed_distance_convex}
use Rattle.section.specs.convex.Steps.{pair_at}

-- the convex edge is outer
abbrev pub Before : ℕ → ℕ → ℕ → ℕ → Type 0
Before i' j' i j = (i' < i) ⊎ ((i' ≡ i) × (j' < j))

-- What 01 computes on edge j of the section, the hit's own, and edge i of the first n of the convex body; no pair before is as
-- near.
pub data Pair (c s : List Float) (n : ℕ) (h : CollisionHit) : Type 0 where
  no_pair : h ≡ hit ∞ (on 0 (vertex_at s 0)) → Pair c s n h
  own_edge : (i j : ℕ) → i < n → j < count s → h.witness.edge ≡ j → h ≡ pair_at c s i j
      → ((i' j' : ℕ) → j' < count s → Before i' j' i j → T (not ((pair_at c s i' j').distance ≼ (pair_at c s i j).distance)))
      → Pair c s n h

-- The gap h is such a pair's, or +infinity with the first vertex and edge 0; no pair is nearer.
pub record GapEdge (c s : List Float) (n : ℕ) (h : CollisionHit) : Type 0 where
  pub pair : Pair c s n h
  pub nearest : (i j : ℕ) → i < n → j < count s → T (not ((pair_at c s i j).distance ≺ h.distance))

-- Where the witness w comes from: the gap, vertex i of the convex body, or vertex j of the section, found inside, with the edge
-- that starts there.
pub data ConvexWitness (c s : List Float) (w : Witness) : Type 0 where
  of_gap : w ≡ (convex_gap c s).witness → ConvexWitness c s w
  of_corner : (i : ℕ) → i < count c → w ≡ (point_distance s (vertex_at c i)).witness → ConvexWitness c s w
  of_vertex : (j : ℕ) → j < count s → T (point_in_convex c (vertex_at s j)) → w ≡ on j (vertex_at s j) → ConvexWitness c s w

module _ (c s : List Float) where
  own : (i j : ℕ) → (pair_at c s i j).witness.edge ≡ j
  unfolding segments
  own i j = refl

  held : (i j : ℕ) → Held (pair_at c s i j)
  held i j = segments_held (edge_at s j) (vertex_at c i) (end_at c i)

  -- one more edge of the convex body
  module _ (n : ℕ) (b : CollisionHit) (B : NumberHit b) (G : GapEdge c s n b) where
    nearest_row : (i j : ℕ) → i < suc n → j < count s → T (not ((pair_at c s i j).distance ≺ (convex_row c s n b).distance))
    unfolding convex_row
    nearest_row i j l m = elim (eq-or-lt_of_le l) [
      | inl e ↦
          let q : n ≡ i = omega (arith, e) in
          subst (λ (z : ℕ). T (not ((pair_at c s z j).distance ≺ (nearest_of (pair_at c s n) b (count s)).distance))) q
          (none_nearer every (pair_at c s n) b B (held n) (count s) j m tt)
      | inr k ↦
          start_not_nearer every (pair_at c s n) b B (held n) (pair_at c s i j) (held i j)
          (G.nearest i j (omega arith) m) (count s)
    ]

    pair_row : {h : CollisionHit} → Pair c s n b → Source every (pair_at c s n) b (count s) h → Pair c s (suc n) h
    pair_row (no_pair e) (start q) = no_pair (q ∙ e)
    pair_row (own_edge i j l m o e first) (start q) =
        own_edge i j (omega arith) m (ap (λ (h : CollisionHit). h.witness.edge) q ∙ o) (q ∙ e) first
    pair_row P (taken k m t e won) =
        own_edge n k (le_refl (suc n)) m (ap (λ (h : CollisionHit). h.witness.edge) e ∙ own n k) e (λ i j l before.
        elim before [
          | inl u ↦
              taken_not_as_near every (pair_at c s n) b B (held n) (pair_at c s i j) (held i j) k
              (start_not_nearer every (pair_at c s n) b B (held n) (pair_at c s i j) (held i j) (G.nearest i j u l) k) won
          | inr u ↦
              subst (λ (z : ℕ). T (not ((pair_at c s z j).distance ≼ (pair_at c s n k).distance))) (sym u.0)
              (taken_not_as_near every (pair_at c s n) b B (held n) (pair_at c s n j) (held n j) k
              (none_nearer every (pair_at c s n) b B (held n) k j u.1 tt) won)
        ])

    row : NumberHit (convex_row c s n b) × GapEdge c s (suc n) (convex_row c s n b)
    unfolding convex_row
    row = (
      first_number every (pair_at c s n) b B (held n) (count s),
      record {
        pair = pair_row G.pair (source every (pair_at c s n) b (count s));
        nearest = nearest_row;
      },
    )

  pub gap_edge : GapEdge c s (count c) (convex_gap c s)
  unfolding convex_gap
  gap_edge =
      (upto_steps (λ (n : ℕ) (h : CollisionHit). NumberHit h × GapEdge c s n h)
      (convex_row c s) (hit ∞ (on 0 (vertex_at s 0))) (count c)
      (infinite, record { pair = no_pair refl; nearest = λ i j l m. let e : ⊥ = omega arith in absurd e })
      (λ n l b B. row n b B.0 B.1)).1

  -- ---- the whole distance
  lowest : (f : ℕ → CollisionHit) (a : CollisionHit) (n : ℕ) → (a.distance ≼ 𝟘) ≡ true → ((nearest_of f a n).distance ≼ 𝟘) ≡ true
  lowest f a n A =
      upto_keeps (λ (h : CollisionHit). (h.distance ≼ 𝟘) ≡ true) (λ k best. nearer best (f k)) a n A
      (λ k l b B. pick (λ (h : CollisionHit). (h.distance ≼ 𝟘) ≡ true) ((f k).distance ≺ b.distance)
      (λ h. below_low (f k).distance b.distance B h) (λ h. B))

  found_inside : (j : ℕ) (b : Float) → (b ≼ 𝟘) ≡ true → T (signed_distance_convex c (vertex_at s j) ≺ b)
      → T (point_in_convex c (vertex_at s j))
  found_inside j b low h = go (point_in_convex c (vertex_at s j)) refl
    where
      go : (t : Bool) → point_in_convex c (vertex_at s j) ≡ t → T t
      go true e = tt
      go false e = subst (λ (t : Bool). T t) (convex_outside b low c (vertex_at s j) e) h

  abbrev corner : ℕ → CollisionHit
  corner i = point_distance s (vertex_at c i)

  abbrev vertex_in : ℕ → CollisionHit
  vertex_in j = hit (signed_distance_convex c (vertex_at s j)) (on j (vertex_at s j))

  of_corners : (h : CollisionHit) → Source every corner (hit 𝟘 (convex_gap c s).witness) (count c) h
      → ConvexWitness c s h.witness
  of_corners h (start e) = of_gap (ap (λ (g : CollisionHit). g.witness) e)
  of_corners h (taken i l t e won) = of_corner i l (ap (λ (g : CollisionHit). g.witness) e)

  of_vertices : (a h : CollisionHit) → (a.distance ≼ 𝟘) ≡ true → ConvexWitness c s a.witness
      → Source every vertex_in a (count s) h
      → ConvexWitness c s h.witness
  of_vertices a h low A (start e) = subst (λ (g : CollisionHit). ConvexWitness c s g.witness) (sym e) A
  of_vertices a h low A (taken j l t e won) =
      of_vertex j l (found_inside j _ (lowest vertex_in a j low) won)
      (ap (λ (g : CollisionHit). g.witness) e)

  pub convex_witness : ConvexWitness c s (convex_distance c s).witness
  unfolding convex_distance convex_penetration
  convex_witness =
      let none = hit 𝟘 (convex_gap c s).witness in
      let deep = nearest_of corner none (count c) in
      of_vertices deep _ (lowest corner none (count c) zero_low)
      (of_corners deep (source every corner none (count c)))
      (source every vertex_in deep (count s))
