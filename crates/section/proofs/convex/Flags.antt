-- Two flags that a loop keeps, each set once its own test is true. By the shape of `any`: what was true below k stays
-- true below every later n.
use Prim.Native.Nat.{ℕ, zero, suc, ◌+◌, ◌≤◌, ◌<◌}
use native.Mathlib.Nat.{eq-or-lt_of_le}
use native.Mathlib.Numerals.{add-one}
use native.Mathlib.Omega.{arith}
use mathlib.Core.Bool.{Bool, true, false, not, ◌&&◌, ◌||◌, and_comm}
use mathlib.Core.Logic.{⊎_elim}
use mathlib.Core.Path.{◌≡◌, refl, sym, subst, ◌∙◌}
use Rattle.section.specs.profile.Vertices.{any}
use Rattle.section.proofs.profile.Fold.{any_at}

pub flag_more : (test : ℕ → Bool) (k : ℕ) {flag t : Bool} →
    flag ≡ any test k → t ≡ test k → (flag || t) ≡ any test (k + 1)
unfolding any
flag_more test k inv e = rw (add-one, ← inv, ← e)

flag_stays : (test : ℕ → Bool) (k n : ℕ) → k ≤ n → any test k ≡ true → any test n ≡ true
unfolding any
flag_stays test k zero h e = let q : k ≡ zero = omega arith in subst (λ (m : ℕ). any test m ≡ true) q e
flag_stays test k (suc n) h e =
    ⊎_elim
    (λ (q : k ≡ suc n). subst (λ (m : ℕ). any test m ≡ true) q e)
    (λ (q : k < suc n). rw (flag_stays test k n (omega arith) e))
    (eq-or-lt_of_le h)

first_set : (a b : Bool) → (a && b) ≡ true → a ≡ true
first_set true b e = refl
first_set false b e = e

module _ (f g : ℕ → Bool) (k n : ℕ) {a b : Bool} (left : a ≡ any f k) (right : b ≡ any g k) where
  pub both_set : k ≤ n → (a && b) ≡ true → false ≡ not (any f n && any g n)
  both_set h e =
      rw (
        flag_stays f k n h (sym left ∙ first_set a b e),
        flag_stays g k n h (sym right ∙ first_set b a (and_comm b a ∙ e)),
      )

  pub not_both_set : k ≡ n → (a && b) ≡ false → true ≡ not (any f n && any g n)
  not_both_set h e = rw (← h, ← left, ← right, e)

-- one test is true somewhere, and so is the other
pub both_somewhere : (f g : ℕ → Bool) (n i k : ℕ) → i < n → k < n → f i ≡ true → g k ≡ true → not (any f n && any g n) ≡ false
both_somewhere f g n i k l m p q = rw (← any_at f i n l refl p, ← any_at g k n m refl q)
