-- What a definition's shape keeps: one of two, a repeated step, a search. By induction over the steps.
use Prim.Native.Nat.{ℕ, zero, suc, ◌<◌}
use mathlib.Core.Bool.{Bool, true, false, not, ◌||◌, cond}
use mathlib.Core.Logic.{inl, inr}
use mathlib.Core.Path.{◌≡◌, refl, subst}
use native.Mathlib.Nat.{eq-or-lt_of_le, le_refl}
use native.Mathlib.Omega.{arith}
use lib.Dec.{T}
use Rattle.std.specs.Prelude.{Option, None, Some}
use Rattle.std.specs.Option.{option_map_or}
use Rattle.section.specs.profile.Vertices.{upto, any}

pub pick : {A : Type 0} (P : A → Type 0) (b : Bool) {x y : A} → (T b → P x) → (T (not b) → P y) → P (cond b x y)
pick P true h k = h tt
pick P false h k = k tt

-- one of two by whether there is a value
pub pick_some : {A B : Type 0} (P : B → Type 0) (o : Option A) {f : A → B} {y : B} → ((x : A) → o ≡ Some x → P (f x))
    → (o ≡ None → P y) → P (option_map_or f o y)
pick_some P (Some x) h k = h x refl
pick_some P None h k = k refl

-- ---- a repeated step
pub upto_steps : {A : Type 0} (P : ℕ → A → Type 0) (f : ℕ → A → A) (a : A) (n : ℕ) → P 0 a
    → ((k : ℕ) → k < n → (b : A) → P k b → P (suc k) (f k b)) → P n (upto f a n)
unfolding upto
upto_steps P f a zero h g = h
upto_steps P f a (suc n) h g = g n (le_refl (suc n)) (upto f a n) (upto_steps P f a n h (λ k l. g k (omega arith)))

pub upto_keeps : {A : Type 0} (P : A → Type 0) (f : ℕ → A → A) (a : A) (n : ℕ) → P a
    → ((k : ℕ) → k < n → (b : A) → P b → P (f k b)) → P (upto f a n)
upto_keeps P f a n h g = upto_steps (λ (k : ℕ). P) f a n h g

-- every step makes a Q of a P, and a Q is a P
pub upto_makes : {A : Type 0} (P Q : A → Type 0) → ((b : A) → Q b → P b) → (f : ℕ → A → A) (a : A) (n : ℕ) → 0 < n → P a
    → ((k : ℕ) → k < n → (b : A) → P b → Q (f k b)) → Q (upto f a n)
unfolding upto
upto_makes P Q w f a zero l h g = let c : ⊥ = omega arith in absurd c
upto_makes P Q w f a (suc n) l h g =
    g n (le_refl (suc n)) (upto f a n) (upto_keeps P f a n h (λ k m b B. w (f k b) (g k (omega arith) b B)))

-- P lasts, Q lasts, and step k makes a Q of a P
pub upto_reaches : {A : Type 0} (P Q : A → Type 0) (f : ℕ → A → A) (a : A) (n : ℕ) → P a
    → ((k : ℕ) → k < n → (b : A) → P b → P (f k b)) → ((k : ℕ) → k < n → (b : A) → Q b → Q (f k b))
    → (k : ℕ) → k < n → ((b : A) → P b → Q (f k b)) → Q (upto f a n)
unfolding upto
upto_reaches P Q f a zero h g q k l m = let c : ⊥ = omega arith in absurd c
upto_reaches P Q f a (suc n) h g q k l m = elim (eq-or-lt_of_le l) [
  | inl e ↦
      subst (λ (z : ℕ). Q (f z (upto f a n))) (suc_injective e)
      (m (upto f a n) (upto_keeps P f a n h (λ i w. g i (omega arith))))
  | inr w ↦
      q n (le_refl (suc n)) (upto f a n)
      (upto_reaches P Q f a n h (λ i w. g i (omega arith)) (λ i w. q i (omega arith)) k (omega arith) m)
]
  where
    suc_injective : {i j : ℕ} → suc i ≡ suc j → i ≡ j
    suc_injective e = omega arith

-- ---- a search
module _ (test : ℕ → Bool) where
  pub any_found : (n : ℕ) → T (any test n) → (k : ℕ) × (k < n) × T (test k)
  unfolding any
  any_found zero h = absurd h
  any_found (suc n) h = go (any test n) (any_found n) h
    where
      go : (b : Bool) → (T b → (k : ℕ) × (k < n) × T (test k)) → T (b || test n) → (k : ℕ) × (k < suc n) × T (test k)
      go true f h = let z = f tt in (z.0, omega (arith, z.1), z.2)
      go false f h = (n, le_refl (suc n), h)

  pub any_not : (n : ℕ) → T (not (any test n)) → (k : ℕ) → k < n → T (test k) → ⊥
  unfolding any
  any_not zero h k l t = let c : ⊥ = omega arith in absurd c
  any_not (suc n) h k l t = go (any test n) (test n) (any_not n) last h
    where
      last : k ≡ n → T (test n)
      last e = subst (λ (z : ℕ). T (test z)) e t

      go : (a b : Bool) → (T (not a) → (k : ℕ) → k < n → T (test k) → ⊥) → (k ≡ n → T b) → T (not (a || b)) → ⊥
      go true b f e h = h
      go false true f e h = h
      go false false f e h = elim (eq-or-lt_of_le l) [ inl i ↦ e (omega arith) | inr w ↦ f tt k (omega arith) t ]
