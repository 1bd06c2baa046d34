-- Tests of one step after the other: where none of the first steps is refused, the first refused one gives its number, however
-- many follow; and where nothing is refused, no step is. By the law of one list of tests after the other.
use Prim.Native.Nat.{ℕ, zero, suc, ◌+◌, ◌<◌}
use native.Mathlib.Nat.{eq-or-lt_of_le}
use native.Mathlib.Numerals.{add-one}
use native.Mathlib.Omega.{arith}
use mathlib.Core.List.{List, [], ◌∷◌, ◌++◌}
use mathlib.Core.Logic.{⊎_elim}
use mathlib.Core.Path.{◌≡◌, refl, sym, ◌∙◌}
use lib.Dec.{T, ltb}
use lib.Ieee.Fits.{and_i, and_l, and_r}
use Rattle.section.specs.profile.Refusals.{Test, refusal}
use Rattle.section.specs.profile.Steps.{numbered}
use Rattle.section.specs.profile.Vertices.{upto}
use Rattle.section.proofs.profile.Each.{all_first, all_rest}
use Rattle.section.proofs.profile.Refusals.Ordered.{by_first, by_rest, or_else_none, none_applies, all_pass}

pub numbered_append : (a b : List Test) → T (numbered a) → T (numbered b) → T (numbered (a ++ b))
numbered_append [] b h k = k
numbered_append (t ∷ a) b h k =
    and_i (ltb 0 t.number) (numbered (a ++ b)) (and_l (ltb 0 t.number) (numbered a) h)
    (numbered_append a b (and_r (ltb 0 t.number) (numbered a) h) k)

module _ (tests : ℕ → List Test) (k : (i : ℕ) → T (numbered (tests i))) where
  abbrev first : ℕ → List Test
  first n = upto (λ i before. before ++ tests i) [] n

  pub first_numbered : (n : ℕ) → T (numbered (first n))
  unfolding upto
  first_numbered zero = tt
  first_numbered (suc n) = numbered_append (first n) (tests n) (first_numbered n) (k n)

  -- one step more that is not refused
  pub one_more : (i : ℕ) → refusal (first i) ≡ 0 → refusal (tests i) ≡ 0 → refusal (first (i + 1)) ≡ 0
  unfolding upto
  one_more i e f = rw (add-one i) (sym (by_rest (first i) (tests i) (first_numbered i) refl e (sym f)))

  -- the first that is
  pub first_refused_lem : (i n : ℕ) → i < n → refusal (first i) ≡ 0 → {r : ℕ} → r ≡ refusal (tests i) → (r ≡ 0 → ⊥)
      → r ≡ refusal (first n)
  unfolding upto
  first_refused_lem i zero h e f z = absurd (omega (arith, h))
  first_refused_lem i (suc n) h e {r} f z =
      ⊎_elim
      (λ (q : i ≡ n). rw (← q) (by_rest (first i) (tests i) (first_numbered i) refl e f))
      (λ (q : i < n).
      by_first (first n) (tests n) (first_numbered n) 0 (first_refused_lem i n q e f z) z ∙ or_else_none _)
      (eq-or-lt_of_le (omega (arith, h)))

  -- none of the first is
  pub none_yet : (i : ℕ) → ((j : ℕ) → j < i → refusal (tests j) ≡ 0) → refusal (first i) ≡ 0
  unfolding upto refusal
  none_yet zero p = refl
  none_yet (suc i) p =
      sym (by_rest (first i) (tests i) (first_numbered i) refl (none_yet i (λ j h. p j (omega (arith, h))))
      (sym (p i (omega arith))))

  -- none is
  pub none_refused : (n : ℕ) → refusal (first n) ≡ 0 → (i : ℕ) → i < n → refusal (tests i) ≡ 0
  unfolding upto
  none_refused zero e i h = absurd (omega (arith, h))
  none_refused (suc n) e i h =
      let p = none_applies (first n ++ tests n) (first_numbered (suc n)) e in
      ⊎_elim
      (λ (q : i ≡ n). rw q (all_pass (all_rest (first n) (tests n) p)))
      (λ (q : i < n). none_refused n (all_pass (all_first (first n) (tests n) p)) i q)
      (eq-or-lt_of_le (omega (arith, h)))
