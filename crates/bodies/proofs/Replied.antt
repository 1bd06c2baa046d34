-- Which case of a reply: a number that is the reply's is not 0, and a value is given only where the number is 0.
use Prim.Native.Nat.{ℕ, zero, suc}
use native.Mathlib.Omega.{arith}
use mathlib.Core.Bool.{Bool, true, false}
use mathlib.Core.Path.{◌≡◌, refl, ap, subst, sym}
use lib.Dec.{T}
use Rattle.section.specs.profile.Replies.{Reply, value, turned_down, reply}

abbrev is_value : {A : Type 0} → Reply A → Bool
is_value (value a) = true
is_value (turned_down n) = false

abbrev value_of : {A : Type 0} → A → Reply A → A
value_of d (value a) = a
value_of d (turned_down n) = d

abbrev number_in : {A : Type 0} → Reply A → ℕ
number_in (value a) = 0
number_in (turned_down n) = n

module _ {A : Type 0} where
  pub refused_by_lem : (k : ℕ) (a : A) {n : ℕ} → turned_down n ≡ reply k a → (n ≡ k) × (n ≡ 0 → ⊥)
  refused_by_lem zero a e = absurd (subst (λ (r : Reply A). T (is_value r)) (sym e) tt)
  refused_by_lem (suc k) a e = let f = ap number_in e in (f, λ z. omega (arith, f, z))

  pub valued_by : (k : ℕ) (a : A) {b : A} → value b ≡ reply k a → (k ≡ 0) × (b ≡ a)
  valued_by zero a e = (refl, ap (value_of a) e)
  valued_by (suc k) a e = absurd (subst (λ (r : Reply A). T (is_value r)) e tt)
