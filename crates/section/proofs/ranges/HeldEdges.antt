-- The sides of an edge hold its computed points, and a polygon's hull those of all its edges. By the laws of ranges, and by
-- induction over the edges.
use Prim.Native.Nat.{ℕ, zero, suc, ◌+◌, ◌<◌}
use native.Mathlib.Nat.{eq-or-lt_of_le, le_refl}
use native.Mathlib.Omega.{arith}
use mathlib.Core.Bool.{false, true}
use mathlib.Core.List.{List}
use mathlib.Core.Logic.{inl, inr}
use mathlib.Core.Path.{◌≡◌, subst, sym}
use lib.Ieee.{Float, binary64, neg}
use lib.Ieee.Fits.{add-fits}
use Rattle.arith.specs.F64.{◌⊕◌, ◌⊖◌, ◌⊗◌, ∞}
use Rattle.arith.proofs.Laws.Along.{Share}
use Rattle.arith.proofs.Laws.Hypot.{inf_number}
use Rattle.arith.proofs.Laws.OrderHeld.{true→T}
use Rattle.section.specs.profile.Vertices.{count, end_at, upto, vertex_at}
use Rattle.section.specs.declared.profile.shapes.Vertex.{Vertex}
use Rattle.section.specs.ranges.Hull.{Hull, VertexHeld, hull_of, wider}
use Rattle.section.specs.ranges.Ranges.{range, ranges_of}
use Rattle.section.specs.declared.ranges.shapes.Sides.{Sides}
use Rattle.section.proofs.ranges.Ranges.{Ended, Holds, held_first, held_second, joined_ended, range_ended, range_holds}

-- all four ends are numbers
pub record SidesEnded (g : Sides) : Type 0 where
  pub z : Ended g.z
  pub r : Ended g.r

-- the computed points of the segment from a to b lie in g
pub record HoldsEdge (g : Sides) (a b : Vertex) : Type 0 where
  pub ended : SidesEnded g
  pub z : (t : Float) → Share binary64 t → Holds g.z (a.z ⊕ (b.z ⊖ a.z) ⊗ t)
  pub r : (t : Float) → Share binary64 t → Holds g.r (a.r ⊕ (b.r ⊖ a.r) ⊗ t)

-- ---- one edge
module _ (a b : Vertex) (A : VertexHeld a) where
  edge_ended : SidesEnded (ranges_of a b)
  edge_ended = record { z = range_ended a.z b.z (true→T A.z); r = range_ended a.r b.r (true→T A.r) }

  pub edge_holds : HoldsEdge (ranges_of a b) a b
  edge_holds = record {
    ended = edge_ended;
    z = range_holds a.z b.z (true→T A.z);
    r = range_holds a.r b.r (true→T A.r);
  }

-- ---- one edge more
module _ (g : Sides) (G : SidesEnded g) (a b : Vertex) (A : VertexHeld a) where
  wider_ended : SidesEnded (wider g a b)
  unfolding wider
  wider_ended = record {
    z = joined_ended _ _ G.z (edge_ended a b A).z;
    r = joined_ended _ _ G.r (edge_ended a b A).r;
  }

  wider_holds : HoldsEdge (wider g a b) a b
  unfolding wider
  wider_holds =
      let E = edge_ended a b A in
      record {
        ended = wider_ended;
        z = λ t S. held_second _ _ G.z E.z _ (add-fits binary64 _ _) ((edge_holds a b A).z t S);
        r = λ t S. held_second _ _ G.r E.r _ (add-fits binary64 _ _) ((edge_holds a b A).r t S);
      }

  wider_still : (p q : Vertex) → HoldsEdge g p q → HoldsEdge (wider g a b) p q
  unfolding wider
  wider_still p q h =
      let E = edge_ended a b A in
      record {
        ended = wider_ended;
        z = λ t S. held_first _ _ G.z E.z _ (add-fits binary64 _ _) (h.z t S);
        r = λ t S. held_first _ _ G.r E.r _ (add-fits binary64 _ _) (h.r t S);
      }

-- ---- all of them
pub one_more : (P : ℕ → Type 0) (k : ℕ) → ((i : ℕ) → i < k → P i) → P k → (i : ℕ) → i < k + 1 → P i
one_more P k h p i l = elim (eq-or-lt_of_le l) [
  | inl e ↦ let q : k ≡ i = omega (arith, e) in subst P q p
  | inr m ↦ h i (omega arith)
]

module _ (c : List Float) where
  hull_ended : (n : ℕ) → ((k : ℕ) → k < n → VertexHeld (vertex_at c k)) → SidesEnded (hull_of c n)
  unfolding upto neg
  hull_ended zero h =
      let nothing : Ended (range ∞ (neg ∞)) = record { low = inf_number binary64 false; high = inf_number binary64 true } in
      record { z = nothing; r = nothing }
  hull_ended (suc n) h =
      wider_ended _ (hull_ended n (λ k l. h k (omega arith))) (vertex_at c n) (end_at c n) (h n (le_refl (suc n)))

  holds_each : (n : ℕ) → ((k : ℕ) → k < n → VertexHeld (vertex_at c k)) → (k : ℕ) → k < n
      → HoldsEdge (hull_of c n) (vertex_at c k) (end_at c k)
  unfolding upto
  holds_each zero h k l = let e : ⊥ = omega arith in absurd e
  holds_each (suc n) h k l = elim (eq-or-lt_of_le l) [
    | inl e ↦
        let q : n ≡ k = omega (arith, e) in
        subst (λ (i : ℕ). HoldsEdge (wider (hull_of c n) (vertex_at c n) (end_at c n)) (vertex_at c i) (end_at c i)) q
        (wider_holds _ (hull_ended n (λ i m. h i (omega arith))) (vertex_at c n) (end_at c n) (h n (le_refl (suc n))))
    | inr m ↦
        wider_still _ (hull_ended n (λ i m. h i (omega arith))) (vertex_at c n) (end_at c n) (h n (le_refl (suc n))) _ _
        (holds_each n (λ i m. h i (omega arith)) k (omega arith))
  ]

  pub hull_holds : (g : Sides) → Hull c g → (k : ℕ) → k < count c → HoldsEdge g (vertex_at c k) (end_at c k)
  hull_holds g H k l =
      subst (λ (h : Sides). HoldsEdge h (vertex_at c k) (end_at c k)) (sym H.is) (holds_each (count c) H.held k l)
