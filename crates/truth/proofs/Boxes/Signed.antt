-- ERRORS OF PRODUCTS, in whole numbers without signs: a value is the difference of two numbers, its key k and M, the key of zero,
-- and c times it is known to be P - N but for E: k c + N and M c + P are at most E apart.
use Prim.Native.Nat.{◌*◌, ◌+◌, ◌<◌, ℕ, ◌≤◌}
use mathlib.Core.Logic.{inl, inr, ◌⊎◌}
use mathlib.Core.Path.{◌≡◌, ap}
use native.Mathlib.Nat.{le_of_eq, le_trans, mul-le-mul, mul-le-mul_right}
use native.Mathlib.Omega.{arith}
use Rattle.arith.specs.Whole.{apart}
use Rattle.arith.proofs.Laws.RoundingError.{Close}
use Rattle.truth.proofs.Points.Lagrange.{apart_split}
use Rattle.arith.proofs.Laws.OperationErrors.{cancel}
use Rattle.truth.proofs.Points.Side.{product_close}

-- c times the value of key k is P - N but for E
abbrev pub Near : ℕ → ℕ → ℕ → ℕ → ℕ → ℕ → Type 0
Near M c k P N E = Close (k * c + N) (M * c + P) E

one : (x y h : ℕ) → Close x y h → Close (1 * x) (1 * y) h
one x y h c = record { over = omega (arith, c.over); under = omega (arith, c.under) }

un_one : (x y h : ℕ) → Close (1 * x) (1 * y) h → Close x y h
un_one x y h c = record { over = omega (arith, c.over); under = omega (arith, c.under) }

-- (x - x') (z - z') is at most m F
pub sized_product : (a b c d x y : ℕ) → Close a b x → Close c d y → Close (a * c + b * d) (a * d + b * c) (x * y)
sized_product a b c d x y h l = un_one _ _ _ (product_close 1 a b c d x y h (one _ _ _ l))

-- a product of two differences, each near another
pub product_near : (x x' y y' P N R S E F m k : ℕ) → Close (x + N) (x' + P) E → Close (y + S) (y' + R) F → Close x x' m
    → Close R S k
    → Close (x * y + x' * y' + (P * S + N * R)) (x * y' + x' * y + (P * R + N * S)) (m * F + k * E)
product_near x x' y y' P N R S E F m k h l a b =
    go (sized_product x x' (y + S) (y' + R) m F a l) (sized_product R S (x + N) (x' + P) k E b h)
  where
    go : Close (x * (y + S) + x' * (y' + R)) (x * (y' + R) + x' * (y + S)) (m * F)
        → Close (R * (x + N) + S * (x' + P)) (R * (x' + P) + S * (x + N)) (k * E)
        → Close (x * y + x' * y' + (P * S + N * R)) (x * y' + x' * y + (P * R + N * S)) (m * F + k * E)
    go f g = record { over = omega (arith, f.over, g.over); under = omega (arith, f.under, g.under) }

times : (k x y h : ℕ) → Close x y h → Close (x * k) (y * k) (h * k)
times k x y h c = record {
  over = le_trans (mul-le-mul_right k c.over) (le_of_eq (sums y));
  under = le_trans (mul-le-mul_right k c.under) (le_of_eq (sums x));
}
  where
    sums : (z : ℕ) → (z + h) * k ≡ z * k + h * k
    sums z = omega arith

pub wider : (x y g h : ℕ) → g ≤ h → Close x y g → Close x y h
wider x y g h l c = record { over = omega (arith, c.over); under = omega (arith, c.under) }

module _ (M U K : ℕ) (k⁺ : 0 < 2 * K) where
  -- a product as rounded, 2 K times its error at most G
  pub near_product : (kz kx ky G c d P N R S E F m k ρ : ℕ)
      → Close (2 * K * (kz * U + (M * kx + M * ky))) (2 * K * (M * U + (kx * ky + M * M))) G
      → Near M c kx P N E → Near M d ky R S F → Close (kx * c) (M * c) m → Close R S k → G * (c * d) ≤ 2 * K * ρ
      → Near M (U * (c * d)) kz (P * R + N * S) (P * S + N * R) (m * F + k * E + ρ)
  near_product kz kx ky G c d P N R S E F m k ρ s x y a b r =
      go (P * R + N * S) (P * S + N * R) (m * F + k * E)
      (cancel (2 * K) _ _ _ k⁺ (wider _ _ _ _ r (shape (times (c * d) _ _ _ s))))
      (product_near (kx * c) (M * c) (ky * d) (M * d) P N R S E F m k x y a b)
    where
      shape : Close (2 * K * (kz * U + (M * kx + M * ky)) * (c * d)) (2 * K * (M * U + (kx * ky + M * M)) * (c * d)) (G * (c * d))
          → Close (2 * K * ((kz * U + (M * kx + M * ky)) * (c * d))) (2 * K * ((M * U + (kx * ky + M * M)) * (c * d)))
          (G * (c * d))
      shape c = record { over = omega (arith, c.over); under = omega (arith, c.under) }

      go : (p n e : ℕ) → Close ((kz * U + (M * kx + M * ky)) * (c * d)) ((M * U + (kx * ky + M * M)) * (c * d)) ρ
          → Close (kx * c * (ky * d) + M * c * (M * d) + n) (kx * c * (M * d) + M * c * (ky * d) + p) e
          → Close (kz * (U * (c * d)) + n) (M * (U * (c * d)) + p) (e + ρ)
      go p n e f g = record { over = omega (arith, f.over, g.over); under = omega (arith, f.under, g.under) }

  -- a sum, and a difference
  pub near_sum : (kz kx ky G c P N R S E F ρ : ℕ) → Close (2 * K * (kz + M)) (2 * K * (kx + ky)) G → Near M c kx P N E
      → Near M c ky R S F → G * c ≤ 2 * K * ρ
      → Near M c kz (P + R) (N + S) (E + F + ρ)
  near_sum kz kx ky G c P N R S E F ρ s x y r =
      go (cancel (2 * K) _ _ _ k⁺ (wider _ _ _ _ r (shape (times c _ _ _ s)))) x y
    where
      shape : Close (2 * K * (kz + M) * c) (2 * K * (kx + ky) * c) (G * c)
          → Close (2 * K * ((kz + M) * c)) (2 * K * ((kx + ky) * c)) (G * c)
      shape c = record { over = omega (arith, c.over); under = omega (arith, c.under) }

      go : Close ((kz + M) * c) ((kx + ky) * c) ρ → Near M c kx P N E → Near M c ky R S F
          → Near M c kz (P + R) (N + S) (E + F + ρ)
      go f x y = record { over = omega (arith, f.over, x.over, y.over); under = omega (arith, f.under, x.under, y.under) }

  pub near_difference : (kz kx ky G c P N R S E F ρ : ℕ) → Close (2 * K * (kz + ky)) (2 * K * (M + kx)) G → Near M c kx P N E
      → Near M c ky R S F
      → G * c ≤ 2 * K * ρ → Near M c kz (P + S) (N + R) (E + F + ρ)
  near_difference kz kx ky G c P N R S E F ρ s x y r =
      go (cancel (2 * K) _ _ _ k⁺ (wider _ _ _ _ r (shape (times c _ _ _ s)))) x y
    where
      shape : Close (2 * K * (kz + ky) * c) (2 * K * (M + kx) * c) (G * c)
          → Close (2 * K * ((kz + ky) * c)) (2 * K * ((M + kx) * c)) (G * c)
      shape c = record { over = omega (arith, c.over); under = omega (arith, c.under) }

      go : Close ((kz + ky) * c) ((M + kx) * c) ρ → Near M c kx P N E → Near M c ky R S F
          → Near M c kz (P + S) (N + R) (E + F + ρ)
      go f x y = record { over = omega (arith, f.over, x.over, y.under); under = omega (arith, f.under, x.under, y.over) }

  -- how large it is
  pub near_size : (k c P N E h : ℕ) → Near M c k P N E → Close P N h → Close (k * c) (M * c) (h + E)
  near_size k c P N E h x s = record { over = omega (arith, x.over, s.over); under = omega (arith, x.under, s.under) }

-- the same value by other numbers, with a larger error; and divided by q
pub refit : (M c k P N P' N' E E' : ℕ) → P + N' ≡ P' + N → E ≤ E' → Near M c k P N E → Near M c k P' N' E'
refit M c k P N P' N' E E' p l x = record { over = omega (arith, x.over); under = omega (arith, x.under) }

pub reduce : (M q c k P N E : ℕ) → 0 < q → Near M (q * c) k (q * P) (q * N) (q * E) → Near M c k P N E
reduce M q c k P N E p x = cancel q _ _ _ p (record { over = omega (arith, x.over); under = omega (arith, x.under) })

apart_scaled : (k M c m : ℕ) → Close (k * c) (M * c) m → apart k M * c ≤ m
apart_scaled k M c m h = go k M (apart k M) (apart_split k M) h
  where
    go : (k M s : ℕ) → (M ≡ k + s) ⊎ (k ≡ M + s) → Close (k * c) (M * c) m → s * c ≤ m
    go k M s (inl e) h = omega (arith, ap (λ z. z * c) e, h.under)
    go k M s (inr e) h = omega (arith, ap (λ z. z * c) e, h.over)

module _ (M U K : ℕ) where
  -- what one rounding of a product, of a sum and of a difference says
  abbrev pub Product : ℕ → ℕ → ℕ → Type 0
  Product kz kx ky = Close (2 * K * (kz * U + (M * kx + M * ky))) (2 * K * (M * U + (kx * ky + M * M)))
      (apart kx M * apart ky M + K * U)

  abbrev pub Sum : ℕ → ℕ → ℕ → Type 0
  Sum kz kx ky = Close (2 * K * (kz + M)) (2 * K * (kx + ky)) (apart kx M + apart ky M)

  abbrev pub Difference : ℕ → ℕ → ℕ → Type 0
  Difference kz kx ky = Close (2 * K * (kz + ky)) (2 * K * (M + kx)) (apart kx M + apart ky M)

module _ (M U K : ℕ) (k⁺ : 0 < 2 * K) where
  pub near_mul : (kz kx ky c d P N R S E F m m' k ρ : ℕ) → Product M U K kz kx ky
      → Near M c kx P N E → Near M d ky R S F → Close (kx * c) (M * c) m → Close (ky * d) (M * d) m' → Close R S k
      → m * m' + K * (U * (c * d)) ≤ 2 * K * ρ
      → Near M (U * (c * d)) kz (P * R + N * S) (P * S + N * R) (m * F + k * E + ρ)
  near_mul kz kx ky c d P N R S E F m m' k ρ s x y a a' b r =
      near_product M U K k⁺ kz kx ky (apart kx M * apart ky M + K * U) c d P N R S E F m k ρ s x y a b
      (le_trans (go (apart kx M) (apart ky M) (mul-le-mul (apart_scaled kx M c m a) (apart_scaled ky M d m' a'))) r)
    where
      go : (s t : ℕ) → s * c * (t * d) ≤ m * m' → (s * t + K * U) * (c * d) ≤ m * m' + K * (U * (c * d))
      go s t h = omega arith

  pub near_add : (kz kx ky c P N R S E F m m' ρ : ℕ) → Sum M U K kz kx ky → Near M c kx P N E → Near M c ky R S F
      → Close (kx * c) (M * c) m → Close (ky * c) (M * c) m'
      → m + m' ≤ 2 * K * ρ → Near M c kz (P + R) (N + S) (E + F + ρ)
  near_add kz kx ky c P N R S E F m m' ρ s x y a a' r =
      near_sum M U K k⁺ kz kx ky (apart kx M + apart ky M) c P N R S E F ρ s x y
      (le_trans (go (apart kx M) (apart ky M) (apart_scaled kx M c m a) (apart_scaled ky M c m' a')) r)
    where
      go : (s t : ℕ) → s * c ≤ m → t * c ≤ m' → (s + t) * c ≤ m + m'
      go s t h l = omega arith

  pub near_sub : (kz kx ky c P N R S E F m m' ρ : ℕ) → Difference M U K kz kx ky → Near M c kx P N E → Near M c ky R S F
      → Close (kx * c) (M * c) m → Close (ky * c) (M * c) m'
      → m + m' ≤ 2 * K * ρ → Near M c kz (P + S) (N + R) (E + F + ρ)
  near_sub kz kx ky c P N R S E F m m' ρ s x y a a' r =
      near_difference M U K k⁺ kz kx ky (apart kx M + apart ky M) c P N R S E F ρ s x y
      (le_trans (go (apart kx M) (apart ky M) (apart_scaled kx M c m a) (apart_scaled ky M c m' a')) r)
    where
      go : (s t : ℕ) → s * c ≤ m → t * c ≤ m' → (s + t) * c ≤ m + m'
      go s t h l = omega arith
