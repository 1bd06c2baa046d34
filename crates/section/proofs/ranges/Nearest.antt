-- The first smallest, sought on from the best so far: what starts at +infinity and is then held against the best is what starts
-- at the best; and a search that starts over what it meets anyway finds the same. By transitivity of the order; a NaN is never
-- taken.
use Prim.Native.Nat.{ℕ, zero, suc, ◌+◌, ◌<◌}
use mathlib.Core.Bool.{Bool, true, false, cond}
use mathlib.Core.Path.{◌≡◌, refl, sym, ap, subst, ◌∙◌}
use borrow.Author.Tests.{not-true}
use lib.Dec.{T}
use lib.Ieee.{Float, binary64, fits}
use Rattle.arith.specs.F64.{◌≺◌, ∞}
use Rattle.arith.proofs.Laws.OrderHeld.{T→true, true→T, inf_not_less, lt_trans_held, not_lt_trans_held, number_held}
use Rattle.section.specs.profile.Vertices.{hit, nearer, nearest_of, upto}
use Rattle.section.specs.declared.profile.shapes.Witness.{Witness}
use Rattle.section.specs.declared.profile.shapes.CollisionHit.{CollisionHit}
use Rattle.section.proofs.profile.Fold.{upto_more}
use Rattle.section.proofs.profile.Nearest.{every, none_nearer}
use Rattle.section.proofs.profile.Numbers.{Held, NumberHit, infinite, nearest_number}
use Rattle.section.proofs.profile.Steps.{pick, upto_keeps}
use Rattle.section.specs.ranges.Search.{StartOver, at_none, over}

-- held against the best one by one, or the nearer of the two first
regrouped : (best b s : CollisionHit) (p q r : Bool) → (s.distance ≺ b.distance) ≡ p → (b.distance ≺ best.distance) ≡ q
    → (s.distance ≺ best.distance) ≡ r → (p ≡ true → q ≡ true → r ≡ true) → (p ≡ false → q ≡ false → r ≡ false)
    → nearer best (nearer b s) ≡ nearer (nearer best b) s
regrouped best b s true true r P Q R h k = rw (P, Q, R ∙ h refl refl, P)
regrouped best b s true false r P Q R h k = rw (P, Q)
regrouped best b s false true r P Q R h k = rw (P, Q, P)
regrouped best b s false false r P Q R h k = rw (P, Q, R ∙ k refl refl)

module _ (best b s : CollisionHit) (B : Held best) (N : NumberHit b) (S : Held s) where
  nearer_assoc : nearer best (nearer b s) ≡ nearer (nearer best b) s
  nearer_assoc =
      regrouped best b s _ _ _ refl refl refl
      (λ p q. lt_trans_held binary64 s.distance b.distance best.distance S B (number_held binary64 b.distance N) p q)
      (λ p q. not_lt_trans_held binary64 s.distance b.distance best.distance S N B p q)

module _ (s : ℕ → CollisionHit) (S : (k : ℕ) → Held (s k)) (w : Witness) where
  -- held against the best before or after
  pub nearest_shift : (best b : CollisionHit) → Held best → NumberHit b → (n : ℕ)
      → nearest_of s (nearer best b) n ≡ nearer best (nearest_of s b n)
  unfolding upto
  nearest_shift best b B N zero = refl
  nearest_shift best b B N (suc n) =
      ap (λ (h : CollisionHit). nearer h (s n)) (nearest_shift best b B N n)
      ∙ sym (nearer_assoc best (nearest_of s b n) (s n) B (nearest_number s b n N S) (S n))

  nothing_nearer : (best : CollisionHit) → nearer best (hit ∞ w) ≡ best
  nothing_nearer best = rw (inf_not_less best.distance)

  pub nearest_from : (best : CollisionHit) → fits binary64 best.distance ≡ true → (n : ℕ)
      → nearest_of s best n ≡ nearer best (nearest_of s (hit ∞ w) n)
  nearest_from best B n =
      ap (λ (h : CollisionHit). nearest_of s h n) (sym (nothing_nearer best))
      ∙ nearest_shift best (hit ∞ w) (true→T B) infinite n

  -- one of them is below u, and so the smallest is
  some_below : (u : Float) → T (fits binary64 u) → (k n : ℕ) → k < n → ((s k).distance ≺ u) ≡ true
      → ((nearest_of s (hit ∞ w) n).distance ≺ u) ≡ true
  some_below u U k n l h = go (b.distance ≺ u) refl
    where
      b : CollisionHit
      b = nearest_of s (hit ∞ w) n

      go : (t : Bool) → (b.distance ≺ u) ≡ t → t ≡ true
      go true e = refl
      go false e =
          sym (not_lt_trans_held binary64 (s k).distance b.distance u (S k) (nearest_number s (hit ∞ w) n infinite S) U
          (not-true _ (T→true _ (none_nearer every s (hit ∞ w) infinite S n k l tt))) e)
          ∙ h

  pub nearest_over : (best : CollisionHit) → fits binary64 best.distance ≡ true → (k n : ℕ) → k < n
      → ((s k).distance ≺ best.distance) ≡ true → nearest_of s best n ≡ nearest_of s (hit ∞ w) n
  nearest_over best B k n l h = nearest_from best B n ∙ rw (some_below best.distance (true→T B) k n l h)

  -- what was met is below u if the nearer of it and nothing is
  pub met_below : (e : CollisionHit) (u : Float) → ((nearer (hit ∞ w) e).distance ≺ u) ≡ true → (e.distance ≺ u) ≡ true
  met_below e u h = go (e.distance ≺ ∞) h
    where
      go : (t : Bool) → ((cond t e (hit ∞ w)).distance ≺ u) ≡ true → (e.distance ≺ u) ≡ true
      go true h = h
      go false h = absurd (true→T (sym (inf_not_less u) ∙ h))

  -- what was met, held against the best in place of what it is the nearer of
  met_again : (best e : CollisionHit) → Held best → Held e → nearer best (nearer (hit ∞ w) e) ≡ nearer best e
  met_again best e B E =
      nearer_assoc best (hit ∞ w) e B infinite E
      ∙ ap (λ (h : CollisionHit). nearer h e) (nothing_nearer best)

  -- The k-th is met first. The search up to it starts over it, holds what was met against the best, and goes on.
  module _ (k n : ℕ) (l : k < n) (none first start : CollisionHit) (i : none ≡ hit ∞ w) where
    start_held : StartOver first none start → Held start
    start_held (at_none e) = subst Held (sym (e ∙ i)) (number_held binary64 ∞ infinite)
    start_held (over e B) = true→T B

    held_so_far : Held start → Held (nearest_of s start k)
    held_so_far H =
        upto_keeps Held (λ j best. nearer best (s j)) start k H
        (λ j m b B. pick Held ((s j).distance ≺ b.distance) (λ t. S j) (λ t. B))

    same_end : first ≡ nearer (hit ∞ w) (s k) → StartOver first none start → nearest_of s start n ≡ nearest_of s (hit ∞ w) n
    same_end f (at_none e) = ap (λ (h : CollisionHit). nearest_of s h n) (e ∙ i)
    same_end f (over e B) =
        nearest_over start B k n l
        (met_below (s k) start.distance (subst (λ (h : CollisionHit). (h.distance ≺ start.distance) ≡ true) f e))

    pub met_first : {before best r : CollisionHit} → first ≡ nearer none (s k) → StartOver first none start
        → ((a : CollisionHit) → start ≡ nearest_of s a 0 → before ≡ nearest_of s a k) → best ≡ nearer before first
        → ((a : CollisionHit) → best ≡ nearest_of s a (k + 1) → r ≡ nearest_of s a n) → r ≡ nearest_of s (hit ∞ w) n
    unfolding upto
    met_first f o p q g =
        let f' = subst (λ (h : CollisionHit). first ≡ nearer h (s k)) i f in
        let p'' = p start refl in
        g start (upto_more (λ j best. nearer best (s j)) start k p''
        (q ∙ ap (nearer _) f' ∙ met_again _ (s k) (subst Held (sym p'') (held_so_far (start_held o))) (S k)))
        ∙ same_end f' o
