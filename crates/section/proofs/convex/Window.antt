-- The gap by a search that starts over some pair and looks at some edges of the section only: no pair with another edge is nearer
-- than the start, so that none is taken, and the search finds what it finds from +infinity. By transitivity of the order, and by
-- induction over both folds.
use Prim.Native.Nat.{ℕ, zero, suc, ◌+◌, ◌<◌, ◌≤◌}
use native.Mathlib.Nat.{eq-or-lt_of_le, le_refl}
use native.Mathlib.Omega.{arith}
use mathlib.Core.Bool.{Bool, true, false}
use mathlib.Core.List.{List}
use mathlib.Core.Logic.{inl, inr}
use mathlib.Core.Path.{◌≡◌, ap, refl, subst, sym, ◌∙◌}
use borrow.Author.Tests.{not-true}
use lib.Dec.{T}
use lib.Ieee.{Float, binary64, fits}
use Rattle.arith.specs.F64.{◌≺◌, ∞}
use Rattle.arith.proofs.Laws.OrderHeld.{T→true, true→T, inf_not_less, lt_trans_held, not_lt_trans_held}
use Rattle.section.specs.profile.Vertices.{on, hit, count, vertex_at, end_at, edge_at, nearer, nearest_of, upto}
use Rattle.section.specs.declared.profile.shapes.CollisionHit.{CollisionHit}
use Rattle.section.proofs.profile.Numbers.{Held, NumberHit, infinite, nearest_number}
use Rattle.section.proofs.profile.Steps.{pick, upto_keeps}
use Rattle.section.proofs.segments.Held.{segments_held}
use Rattle.section.specs.ranges.Hull.{Hull}
use Rattle.section.specs.ranges.Search.{FoundFrom, StartOver, at_none, over}
use Rattle.section.specs.declared.ranges.shapes.Sides.{Sides}
use Rattle.section.proofs.ranges.FarOff.{far_off_not_nearer}
use Rattle.section.proofs.ranges.HeldEdges.{hull_holds}
use Rattle.section.proofs.ranges.Nearest.{met_below, nearest_shift}
use Rattle.section.specs.convex.Convex.{convex_gap, convex_row}
use Rattle.section.specs.convex.Steps.{FarAfter, FarBefore, OfPair, Window, of_pair, pair_at}
use Rattle.section.proofs.convex.Edges.{gap_edge}

-- ---- x is not nearer than h
abbrev Over : CollisionHit → CollisionHit → Type 0
Over x h = Held h × ((x.distance ≺ h.distance) ≡ false)

over_nearer : (x y h : CollisionHit) → Held x → Held y → Over x h → T (y.distance ≺ h.distance) → Over x y
over_nearer x y h X Y H t = (Y, go (x.distance ≺ y.distance) refl)
  where
    go : (b : Bool) → (x.distance ≺ y.distance) ≡ b → b ≡ false
    go false e = refl
    go true e =
        sym (lt_trans_held binary64 x.distance y.distance h.distance X H.0 Y e (T→true _ t)) ∙ H.1

-- ---- a row
module _ (f : ℕ → CollisionHit) (F : (k : ℕ) → Held (f k)) where
  over_row : (x h : CollisionHit) (n : ℕ) → Held x → Over x h → Over x (nearest_of f h n)
  over_row x h n X H =
      upto_keeps (Over x) (λ k best. nearer best (f k)) h n H
      (λ k l b B. pick (Over x) ((f k).distance ≺ b.distance) (λ t. over_nearer x (f k) b X (F k) B t) (λ t. B))

  none_taken : (best : CollisionHit) (n : ℕ) → ((j : ℕ) → j < n → ((f j).distance ≺ best.distance) ≡ false)
      → nearest_of f best n ≡ best
  unfolding upto
  none_taken best zero h = refl
  none_taken best (suc n) h = rw (none_taken best n (λ j l. h j (omega arith)), h n (le_refl (suc n)))

  rest_not_taken : (best : CollisionHit) (k n : ℕ) → k ≤ n
      → ((j : ℕ) → k ≤ j → j < n → ((f j).distance ≺ (nearest_of f best k).distance) ≡ false)
      → nearest_of f best n ≡ nearest_of f best k
  unfolding upto
  rest_not_taken best k zero l h = let e : 0 ≡ k = omega arith in ap (λ (m : ℕ). nearest_of f best m) e
  rest_not_taken best k (suc n) l h = elim (eq-or-lt_of_le l) [
    | inl e ↦ ap (λ (m : ℕ). nearest_of f best m) (sym e)
    | inr m ↦
        rw (rest_not_taken best k n (omega arith) (λ j a b. h j a (omega arith)), h n (omega arith) (le_refl (suc n)))
  ]

-- one index less
pub one_before : (P : ℕ → Type 0) (j k n : ℕ) → j ≤ k + 1 → ((i : ℕ) → j ≤ i → i < n → P i) → P k → (i : ℕ) → k ≤ i → i < n → P i
one_before P j k n e h p i a b = elim (eq-or-lt_of_le a) [ inl q ↦ subst P q p | inr m ↦ h i (omega arith) b ]

module _ (c s : List Float) where
  held : (i j : ℕ) → Held (pair_at c s i j)
  held i j = segments_held (edge_at s j) (vertex_at c i) (end_at c i)

  pub row_found : (i from to : ℕ) (start : CollisionHit) {r : CollisionHit} → i < count c → Window c s from to start.distance
      → fits binary64 start.distance ≡ true → FoundFrom (pair_at c s i) from to start r → r ≡ convex_row c s i start
  unfolding convex_row
  row_found i from to start l W B found =
      found start (sym (none_taken (pair_at c s i) (held i) start from (λ j m. W.before i j l m)))
      ∙ sym (rest_not_taken (pair_at c s i) (held i) start to (count s) W.within
      (λ j a b. (over_row (pair_at c s i) (held i) (pair_at c s i j) start to (held i j) (true→T B, W.after i j l a b)).1))

  -- ---- rows
  over_rows : (x start : CollisionHit) (n : ℕ) → Held x → Over x start → Over x (upto (convex_row c s) start n)
  unfolding convex_row
  over_rows x start n X S =
      upto_keeps (Over x) (convex_row c s) start n S (λ i l b B. over_row (pair_at c s i) (held i) x b (count s) X B)

  pub window_stays : (from to : ℕ) (start : CollisionHit) (n : ℕ) {best : CollisionHit} → fits binary64 start.distance ≡ true
      → Window c s from to start.distance → best ≡ upto (convex_row c s) start n → Window c s from to best.distance
  window_stays from to start n B W e =
      subst (λ (h : CollisionHit). Window c s from to h.distance) (sym e) (record {
        order = W.order;
        within = W.within;
        before = λ i j l m. (over_rows (pair_at c s i j) start n (held i j) (true→T B, W.before i j l m)).1;
        after = λ i j l a b. (over_rows (pair_at c s i j) start n (held i j) (true→T B, W.after i j l a b)).1;
      })

  pub window_of : (g : Sides) (least : Float) (from to : ℕ) → Hull c g → FarBefore s g least from → FarAfter s g least from to
      → Window c s from to least
  window_of g least from to H p q = record {
    order = q.order;
    within = q.within;
    before = λ i j l m.
        far_off_not_nearer least (edge_at s j) (vertex_at c i) (end_at c i) g (hull_holds c g H i l) (p.far j m);
    after = λ i j l a b.
        far_off_not_nearer least (edge_at s j) (vertex_at c i) (end_at c i) g (hull_holds c g H i l) (q.far j a b);
  }

  -- ---- a start over some pair
  abbrev nothing : CollisionHit
  nothing = hit ∞ (on 0 (vertex_at s 0))

  rows_number : (n : ℕ) → NumberHit (upto (convex_row c s) nothing n)
  unfolding convex_row
  rows_number n =
      upto_keeps NumberHit (convex_row c s) nothing n infinite
      (λ i l b B. nearest_number (pair_at c s i) b (count s) B (held i))

  rows_from : (start : CollisionHit) → Held start → (n : ℕ)
      → upto (convex_row c s) start n ≡ nearer start (upto (convex_row c s) nothing n)
  unfolding upto convex_row
  rows_from start S zero = rw (inf_not_less start.distance)
  rows_from start S (suc n) =
      ap (λ (h : CollisionHit). nearest_of (pair_at c s n) h (count s)) (rows_from start S n)
      ∙ nearest_shift (pair_at c s n) (held n) (on 0 (vertex_at s 0)) start (upto (convex_row c s) nothing n) S (rows_number n)
      (count s)

  gap_number : NumberHit (convex_gap c s)
  unfolding convex_gap
  gap_number = rows_number (count c)

  gap_below : (i j : ℕ) (u : Float) → i < count c → j < count s → T (fits binary64 u) → ((pair_at c s i j).distance ≺ u) ≡ true
      → ((convex_gap c s).distance ≺ u) ≡ true
  gap_below i j u l m U h = go ((convex_gap c s).distance ≺ u) refl
    where
      go : (t : Bool) → ((convex_gap c s).distance ≺ u) ≡ t → t ≡ true
      go true e = refl
      go false e =
          sym (not_lt_trans_held binary64 (pair_at c s i j).distance (convex_gap c s).distance u (held i j) gap_number U
          (not-true _ (T→true _ ((gap_edge c s).nearest i j l m))) e)
          ∙ h

  gap_over : (i j : ℕ) (start : CollisionHit) → i < count c → j < count s → Held start
      → ((pair_at c s i j).distance ≺ start.distance) ≡ true → upto (convex_row c s) start (count c) ≡ convex_gap c s
  unfolding convex_gap
  gap_over i j start l m S h = rows_from start S (count c) ∙ rw (gap_below i j start.distance l m S h)

  same_gap : (none first start : CollisionHit) → none ≡ nothing → OfPair c s none first → StartOver first none start
      → upto (convex_row c s) start (count c) ≡ convex_gap c s
  unfolding convex_gap
  same_gap none first start e p (at_none q) = ap (λ (h : CollisionHit). upto (convex_row c s) h (count c)) (q ∙ e)
  same_gap none first start e (of_pair i j l m f) (over k B) =
      gap_over i j start l m (true→T B)
      (met_below (pair_at c s i) (held i) (on 0 (vertex_at s 0)) (pair_at c s i j) start.distance
      (subst (λ (h : CollisionHit). (h.distance ≺ start.distance) ≡ true)
      (f ∙ ap (λ (h : CollisionHit). nearer h (pair_at c s i j)) e) k))

  pub gap_found : {none first start r : CollisionHit} → none ≡ nothing → OfPair c s none first → StartOver first none start
      → r ≡ upto (convex_row c s) start (count c) → r ≡ convex_gap c s
  gap_found {none} {first} {start} e p q i = i ∙ same_gap none first start e p q
