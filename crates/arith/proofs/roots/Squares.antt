-- Squares order as their roots do, also in steps of u.
use Rattle.std.proofs.Common.{◌≡◌, ℕ, ◌*◌, ◌^◌, ◌<◌, ◌≤◌, ap, ◌∙◌, subst, inl, inr, zero-le, lt_of_le_of_lt, le_of_lt, lt_irrefl, mul-le-mul_right, mul-le-mul, lt_of_mul-lt-mul_right, mul-le-mul_left, mul-lt-mul_of_pos_right, one-mul, pow-suc, not-le_of_lt, arith}
use native.Mathlib.Nat.{mul-mul-mul_comm}
use native.Mathlib.Nat.{pow-zero}
use Rattle.arith.proofs.roots.Numbers.{decide}
use Rattle.arith.specs.roots.Steps.{sq}

pub sq_lt : (a b : ℕ) → sq a < sq b → a < b
sq_lt a b h = elim (decide b a) [ inl l ↦ absurd (not-le_of_lt h (mul-le-mul l l)) | inr l ↦ l ]

pub times_lt : (a b u : ℕ) → sq (a * u) < sq (b * u) → a < b
times_lt a b u h = lt_of_mul-lt-mul_right u (sq_lt (a * u) (b * u) h)

pub times_le : (a b u : ℕ) → 0 < u → sq (a * u) ≤ sq (b * u) → a ≤ b
times_le a b u U h = elim (decide a b) [
  | inl l ↦ l
  | inr l ↦ absurd
      (not-le_of_lt (go (b * u) (a * u) (mul-lt-mul_of_pos_right l U)) h)
]
  where
    go : (x y : ℕ) → x < y → sq x < sq y
    go x y l = lt_of_le_of_lt (mul-le-mul_left x (le_of_lt l)) (mul-lt-mul_of_pos_right l (lt_of_le_of_lt zero-le l))

pub square : (x : ℕ) → x ^ 2 ≡ x * x
square x = pow-suc x 1 ∙ ap (λ (y : ℕ). y * x) (pow-suc x 0 ∙ ap (λ (y : ℕ). y * x) (pow-zero x) ∙ one-mul x)

-- a square of steps
pub sq_times : (a u : ℕ) → sq (a * u) ≡ sq a * sq u
sq_times a u = mul-mul-mul_comm a u a u

pub sq_times_le : (a b u : ℕ) → a ≤ b → sq (a * u) ≤ sq (b * u)
sq_times_le a b u h = mul-le-mul (mul-le-mul_right u h) (mul-le-mul_right u h)

pub sq_times_lt : (a b u : ℕ) → 0 < u → a < b → sq (a * u) < sq (b * u)
sq_times_lt a b u U h = go (a * u) (b * u) (mul-lt-mul_of_pos_right h U)
  where
    go : (x y : ℕ) → x < y → sq x < sq y
    go x y l = lt_of_le_of_lt (mul-le-mul_left x (le_of_lt l)) (mul-lt-mul_of_pos_right l (lt_of_le_of_lt zero-le l))

pub four_sq : (a u : ℕ) → 4 * sq (a * u) ≡ sq (2 * a * u)
four_sq a u = omega arith

pub lt_not_eq : (a b : ℕ) {X : Type 0} → a < b → a ≡ b → X
lt_not_eq a b h e = absurd (lt_irrefl b (subst (λ (z : ℕ). z < b) e h))
