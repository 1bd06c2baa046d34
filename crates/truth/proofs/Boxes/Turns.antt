-- ALONG A SIDE THAT RUNS EITHER WAY, in whole numbers: what was found of t, turned so that the side runs up; and from a place
-- that lies beyond a corner, every point of the side. Also the factors' order in products and sums.
use Prim.Native.Nat.{◌*◌, ◌+◌, ◌-◌, ◌<◌, ℕ, ◌≤◌}
use mathlib.Core.Logic.{inl, inr, ◌⊎◌}
use mathlib.Core.Path.{◌≡◌, ap}
use native.Mathlib.Nat.{le_of_mul-le-mul_left, le_trans, mul-le-mul_left}
use native.Mathlib.Omega.{arith}
use lib.Dec.{T}
use Rattle.arith.specs.Whole.{apart}
use Rattle.arith.proofs.Laws.RoundingError.{Close}
use Rattle.arith.proofs.Laws.OperationErrors.{apart_over, apart_under, cancel}
use Rattle.truth.proofs.Boxes.Across.{Best}
use Rattle.truth.proofs.Boxes.Beside.{beside², clear_above, clear_below, FromCorner}
use Rattle.truth.proofs.Boxes.Floats.{U}
use Rattle.truth.proofs.Boxes.Signed.{Product, Sum}

-- ---- the factors' order
pub product_swap : (m v c kz kx ky : ℕ) → Product m v c kz kx ky → Product m v c kz ky kx
product_swap m v c kz kx ky s = go (apart kx m) (apart ky m) s
  where
    go : (a b : ℕ) → Close (2 * c * (kz * v + (m * kx + m * ky))) (2 * c * (m * v + (kx * ky + m * m))) (a * b + c * v)
        → Close (2 * c * (kz * v + (m * ky + m * kx))) (2 * c * (m * v + (ky * kx + m * m))) (b * a + c * v)
    go a b s = record { over = omega (arith, s.over); under = omega (arith, s.under) }

pub sum_swap : (m v c kz kx ky : ℕ) → Sum m v c kz kx ky → Sum m v c kz ky kx
sum_swap m v c kz kx ky s = go (apart kx m) (apart ky m) s
  where
    go : (a b : ℕ) → Close (2 * c * (kz + m)) (2 * c * (kx + ky)) (a + b) → Close (2 * c * (kz + m)) (2 * c * (ky + kx)) (b + a)
    go a b s = record { over = omega (arith, s.over); under = omega (arith, s.under) }

-- what was found of t, seen along the side, whichever way it runs
pub side_by_side : (a b q q' h T W U u : ℕ) → 0 < h → ((q' - q ≡ h) × (q - q' ≡ 0)) ⊎ ((q' - q ≡ 0) × (q - q' ≡ h))
    → Close (W * (h * h) + ((b * (q - q') + a * (q' - q)) * T + U * (a * (q - q') + q * (q' - q))))
    ((b * (q' - q) + a * (q - q')) * T + U * (a * (q' - q) + q * (q - q'))) (51 * (u * h * U))
    → Close (U * a + b * T + q * W) (a * T + U * q + q' * W) (51 * (u * U))
side_by_side a b q q' h T W U u h⁺ (inl e) = rw (e.0, e.1)
    (λ c. up (let z : q' ≡ q + h = omega (arith, e.0) in z)
    (cancel h (W * h + (a * T + U * q)) (b * T + U * a) (51 * (u * U)) h⁺ (shape c)))
  where
    shape : Close (W * (h * h) + ((b * 0 + a * h) * T + U * (a * 0 + q * h))) ((b * h + a * 0) * T + U * (a * h + q * 0))
        (51 * (u * h * U))
        → Close (h * (W * h + (a * T + U * q))) (h * (b * T + U * a)) (h * (51 * (u * U)))
    shape c = record { over = omega (arith, c.over); under = omega (arith, c.under) }

    up : q' ≡ q + h → Close (W * h + (a * T + U * q)) (b * T + U * a) (51 * (u * U))
        → Close (U * a + b * T + q * W) (a * T + U * q + q' * W) (51 * (u * U))
    up o c = record { over = omega (arith, c.under, ap (λ z. z * W) o); under = omega (arith, c.over, ap (λ z. z * W) o) }
side_by_side a b q q' h T W U u h⁺ (inr e) = rw (e.0, e.1)
    (λ c. down (let z : q ≡ q' + h = omega (arith, e.1) in z)
    (cancel h (W * h + (b * T + U * a)) (a * T + U * q) (51 * (u * U)) h⁺ (shape c)))
  where
    shape : Close (W * (h * h) + ((b * h + a * 0) * T + U * (a * h + q * 0))) ((b * 0 + a * h) * T + U * (a * 0 + q * h))
        (51 * (u * h * U))
        → Close (h * (W * h + (b * T + U * a))) (h * (a * T + U * q)) (h * (51 * (u * U)))
    shape c = record { over = omega (arith, c.over); under = omega (arith, c.under) }

    down : q ≡ q' + h → Close (W * h + (b * T + U * a)) (a * T + U * q) (51 * (u * U))
        → Close (U * a + b * T + q * W) (a * T + U * q + q' * W) (51 * (u * U))
    down o c = record { over = omega (arith, c.over, ap (λ z. z * W) o); under = omega (arith, c.under, ap (λ z. z * W) o) }

pub across_legs : (a b q q' T W U S : ℕ) → q' ≡ q → U ≡ S + T
    → Close (U * a + b * T + q * W) (a * T + U * q + q' * W) (apart (S * a + T * b) ((S + T) * q))
across_legs a b q q' T W U S e f = go (apart (S * a + T * b) ((S + T) * q)) (apart_over _ _) (apart_under _ _)
  where
    go : (g : ℕ) → S * a + T * b ≤ (S + T) * q + g → (S + T) * q ≤ S * a + T * b + g
        → Close (U * a + b * T + q * W) (a * T + U * q + q' * W) g
    go g h k = rw (e, f) (record { over = omega arith; under = omega arith })

-- x / m lies between the ends, whichever is the first
abbrev pub Between : ℕ → ℕ → ℕ → ℕ → Type 0
Between m q q' x = ((m * q ≤ x) × (x ≤ m * q')) ⊎ ((m * q' ≤ x) × (x ≤ m * q))

from_least : (m q q' x : ℕ) → q ≤ q' → Between m q q' x → m * q ≤ x
from_least m q q' x l (inl b) = b.0
from_least m q q' x l (inr b) = le_trans (mul-le-mul_left m l) b.0

to_most : (m q q' x : ℕ) → q ≤ q' → Between m q q' x → x ≤ m * q'
to_most m q q' x l (inl b) = b.1
to_most m q q' x l (inr b) = le_trans b.1 (mul-le-mul_left m l)

other_way : (m q q' x : ℕ) → Between m q q' x → Between m q' q x
other_way m q q' x (inl b) = inr b
other_way m q q' x (inr b) = inl b

module _ (a b q q' h T U u S : ℕ) (h⁺ : 0 < h) (sum : S + T ≡ U) where
  pub from_first : ((q' - q ≡ h) × (q - q' ≡ 0)) ⊎ ((q' - q ≡ 0) × (q - q' ≡ h))
      → (b * (q' - q) + a * (q - q')) * T + U * (a * (q' - q) + q * (q - q'))
      ≤ (b * (q - q') + a * (q' - q)) * T + U * (a * (q - q') + q * (q' - q)) + 31 * (u * h * U)
      → (A B Q ε δ w : ℕ) → Best ε S T A B Q → 0 < S + T → FromCorner δ w A B Q a b q → (i j m x : ℕ) → Between m q q' x
      → (i + j) * m * (w - (ε + (δ + 31 * u))) * ((i + j) * m * (w - (ε + (δ + 31 * u)))) ≤ beside² A B Q a b i j m x
  from_first (inl e) l A B Q ε δ w best some corner i j m x o =
      clear_above ε δ (31 * u) w S T A B Q best some a b q corner (go (rw (e.0, e.1) at l)) i j m x
      (from_least m q q' x (let z : q ≤ q' = omega (arith, e.1) in z) o)
    where
      go : (b * h + a * 0) * T + U * (a * h + q * 0) ≤ (b * 0 + a * h) * T + U * (a * 0 + q * h) + 31 * (u * h * U)
          → S * a + T * b ≤ (S + T) * (q + 31 * u)
      go l = last (le_of_mul-le-mul_left (let z : h * (b * T + U * a) ≤ h * (a * T + U * q + 31 * (u * U)) = omega arith in z) h⁺)
        where
          last : b * T + U * a ≤ a * T + U * q + 31 * (u * U) → S * a + T * b ≤ (S + T) * (q + 31 * u)
          last k = omega (arith, ap (λ z. z * a) sum, ap (λ z. z * q) sum, ap (λ z. z * u) sum)
  from_first (inr e) l A B Q ε δ w best some corner i j m x o =
      clear_below ε δ (31 * u) w S T A B Q best some a b q corner (go (rw (e.0, e.1) at l)) i j m x
      (to_most m q' q x (let z : q' ≤ q = omega (arith, e.0) in z) (other_way m q q' x o))
    where
      go : (b * 0 + a * h) * T + U * (a * 0 + q * h) ≤ (b * h + a * 0) * T + U * (a * h + q * 0) + 31 * (u * h * U)
          → (S + T) * q ≤ S * a + T * b + (S + T) * (31 * u)
      go l = last (le_of_mul-le-mul_left (let z : h * (a * T + U * q) ≤ h * (b * T + U * a + 31 * (u * U)) = omega arith in z) h⁺)
        where
          last : a * T + U * q ≤ b * T + U * a + 31 * (u * U) → (S + T) * q ≤ S * a + T * b + (S + T) * (31 * u)
          last k = omega (arith, ap (λ z. z * a) sum, ap (λ z. z * q) sum, ap (λ z. z * u) sum)

  pub from_last : ((q' - q ≡ h) × (q - q' ≡ 0)) ⊎ ((q' - q ≡ 0) × (q - q' ≡ h))
      → U * (h * h) + ((b * (q - q') + a * (q' - q)) * T + U * (a * (q - q') + q * (q' - q)))
      ≤ (b * (q' - q) + a * (q - q')) * T + U * (a * (q' - q) + q * (q - q')) + 51 * (u * h * U)
      → (A B Q ε δ w : ℕ) → Best ε S T A B Q → 0 < S + T → FromCorner δ w A B Q a b q' → (i j m x : ℕ) → Between m q q' x
      → (i + j) * m * (w - (ε + (δ + 51 * u))) * ((i + j) * m * (w - (ε + (δ + 51 * u)))) ≤ beside² A B Q a b i j m x
  from_last (inl e) l A B Q ε δ w best some corner i j m x o =
      clear_below ε δ (51 * u) w S T A B Q best some a b q' corner
      (go (let z : q' ≡ q + h = omega (arith, e.0, e.1) in z) (rw (e.0, e.1) at l)) i j m x
      (to_most m q q' x (let z : q ≤ q' = omega (arith, e.1) in z) o)
    where
      go : q' ≡ q + h → U * (h * h) + ((b * 0 + a * h) * T + U * (a * 0 + q * h))
          ≤ (b * h + a * 0) * T + U * (a * h + q * 0) + 51 * (u * h * U) → (S + T) * q' ≤ S * a + T * b + (S + T) * (51 * u)
      go f l = last (le_of_mul-le-mul_left (let z : h * (U * h + (a * T + U * q))
          ≤ h * (b * T + U * a + 51 * (u * U)) = omega arith in z) h⁺)
        where
          last : U * h + (a * T + U * q) ≤ b * T + U * a + 51 * (u * U) → (S + T) * q' ≤ S * a + T * b + (S + T) * (51 * u)
          last k = omega (arith, ap (λ z. z * a) sum, ap (λ z. z * q') sum, ap (λ z. z * u) sum, ap (λ z. U * z) f)
  from_last (inr e) l A B Q ε δ w best some corner i j m x o =
      clear_above ε δ (51 * u) w S T A B Q best some a b q' corner
      (go (let z : q ≡ q' + h = omega (arith, e.0, e.1) in z) (rw (e.0, e.1) at l)) i j m x
      (from_least m q' q x (let z : q' ≤ q = omega (arith, e.0) in z) (other_way m q q' x o))
    where
      go : q ≡ q' + h → U * (h * h) + ((b * h + a * 0) * T + U * (a * h + q * 0))
          ≤ (b * 0 + a * h) * T + U * (a * 0 + q * h) + 51 * (u * h * U) → S * a + T * b ≤ (S + T) * (q' + 51 * u)
      go f l = last (le_of_mul-le-mul_left (let z : h * (U * h + (b * T + U * a))
          ≤ h * (a * T + U * q + 51 * (u * U)) = omega arith in z) h⁺)
        where
          last : U * h + (b * T + U * a) ≤ a * T + U * q + 51 * (u * U) → S * a + T * b ≤ (S + T) * (q' + 51 * u)
          last k = omega (arith, ap (λ z. z * a) sum, ap (λ z. z * q') sum, ap (λ z. z * u) sum, ap (λ z. U * z) f)
