-- Loops that count up: a fold makes one step a turn, a search leaves at the first test that is true.
use Prim.Native.Nat.{ℕ, zero, suc, ◌+◌, ◌<◌}
use native.Mathlib.Nat.{eq-or-lt_of_le}
use native.Mathlib.Numerals.{add-one}
use native.Mathlib.Omega.{arith}
use mathlib.Core.Bool.{Bool, true, false, or-true}
use mathlib.Core.Logic.{⊎_elim}
use mathlib.Core.Path.{◌≡◌}
use Rattle.section.specs.profile.Vertices.{upto, any}

-- a fold: one turn more, and the end
module _ {A : Type 0} (step : ℕ → A → A) (a : A) (k : ℕ) {b : A} (inv : b ≡ upto step a k) where
  pub upto_more : {r : A} → r ≡ step k b → r ≡ upto step a (k + 1)
  unfolding upto
  upto_more e = rw (add-one, ← inv) e

  pub upto_end : (n : ℕ) → k ≡ n → b ≡ upto step a n
  upto_end n e = rw (← e) inv

-- a search, t what the call of the test gave: one turn more, the end, and a find
module _ (test : ℕ → Bool) (k : ℕ) where
  pub any_more : {t : Bool} → any test k ≡ false → t ≡ test k → t ≡ false → any test (k + 1) ≡ false
  unfolding any
  any_more inv e missed = rw (add-one, inv, ← e, missed)

  pub any_end : any test k ≡ false → (n : ℕ) → k ≡ n → false ≡ any test n
  any_end inv n e = rw (← e, inv)

  pub any_at : {t : Bool} (n : ℕ) → k < n → t ≡ test k → t ≡ true → true ≡ any test n
  unfolding any
  any_at zero h e found = absurd (omega arith)
  any_at (suc n) h e found =
      ⊎_elim
      (λ (q : k ≡ n). rw (← q, ← e, found, or-true))
      (λ (q : k < n). rw (← any_at n q e found))
      (eq-or-lt_of_le (omega arith))
