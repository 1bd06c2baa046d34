-- The operations of f64, each as Signed and Chain want it: of numbers below 2 ^ 200.
use Prim.Native.Nat.{◌*◌, ◌+◌, ◌-◌, ◌<◌, ◌^◌, suc, ℕ, ◌≤◌}
use mathlib.Core.Bool.{false}
use mathlib.Core.Logic.{inl, inr, ◌⊎◌}
use mathlib.Core.Path.{◌≡◌, ap, refl, sym}
use native.Mathlib.Nat.{le_antisymm, le_of_eq, le_of_mul-le-mul_left, le_refl, le_trans, mul-pos, mul-le-mul}
use native.Mathlib.Nat.{mul-le-mul_right, one-mul}
use native.Mathlib.Omega.{arith}
use lib.Dec.{leb→le, lit<, T}
use lib.Ieee.{binary64, div, Float, Format, low, prec}
use Rattle.arith.proofs.roots.Numbers.{decide}
use Rattle.arith.proofs.roots.Rounding.Key.{finite_number, key, mid, unit, unit_pos}
use Rattle.arith.proofs.roots.Rounding.Product.{negative_part, positive_part}
use Rattle.arith.proofs.roots.Rounding.Quotient.{div_key}
use Rattle.arith.proofs.roots.Rounding.RoundKey.{round_key, round_key_mono, round_key_side}
use Rattle.arith.specs.F64.{◌⊕◌, ◌⊖◌, ◌⊗◌, ◌⊘◌}
use Rattle.arith.proofs.Laws.Bounded.{one_lt}
use Rattle.arith.proofs.Laws.Bounds.{round_key_within}
use Rattle.arith.proofs.Laws.Sizes.{Finite, K, M}
use Rattle.arith.specs.Whole.{apart}
use Rattle.truth.proofs.Points.Coordinate.{power_1}
use Rattle.arith.proofs.Laws.RoundingError.{Close}
use Rattle.truth.proofs.Points.Lagrange.{apart_split}
use Rattle.arith.proofs.Laws.OperationErrors.{apart_most, apart_over, apart_under, div_share, half, mul_share, sub_close}
use Rattle.arith.proofs.Laws.OperationErrors.{sub_share}
use Rattle.truth.proofs.Points.Segment.{sum_share}
use Rattle.truth.proofs.Boxes.Chain.{Length, Small, Way}
use Rattle.truth.proofs.Boxes.Signed.{Difference, Product, Sum, wider}

abbrev pub H : ℕ
H = half binary64

abbrev pub U : ℕ
U = unit binary64

size_of : {x : Float} → Finite 200 x → apart (K x) M ≤ 2 ^ 1274
size_of {x} X = apart_most (K x) M (2 ^ 1274) X.bounded.upper X.bounded.lower

room : 2 ^ 1274 * 2 ^ 1274 + H * U ≤ M * U
unfolding half unit mid
room = leb→le _ _ tt

wide : 2 ^ 1274 + 2 ^ 1274 ≤ M
unfolding mid
wide = leb→le _ _ tt

-- the sign of a difference
module _ (a b k m c h : ℕ) where
  shape : (P N : ℕ) → a + N ≡ b + P → Close (2 * c * (k + b)) (2 * c * (m + a)) h
      → Close (k * (2 * c) + 2 * c * N) (m * (2 * c) + 2 * c * P) h
  shape P N e s = record {
    over = omega (arith, s.over, ap (λ z. 2 * c * z) e);
    under = omega (arith, s.under, ap (λ z. 2 * c * z) e);
  }

  signs : (b ≡ a + h) ⊎ (a ≡ b + h) → ((a - b ≡ h) × (b - a ≡ 0)) ⊎ ((a - b ≡ 0) × (b - a ≡ h))
  signs (inl e) = inr ((let z : a - b ≡ 0 = omega arith in z), (let z : b - a ≡ h = omega arith in z))
  signs (inr e) = inl ((let z : a - b ≡ h = omega arith in z), (let z : b - a ≡ 0 = omega arith in z))

  far : (b ≡ a + h) ⊎ (a ≡ b + h) → Close (a - b) (b - a) h
  far (inl e) = record { over = omega arith; under = omega arith }
  far (inr e) = record { over = omega arith; under = omega arith }

-- a product with zero is zero
pub zero_product : (kz kx ky : ℕ) → Product M U H kz kx ky → ky ≡ M → kz ≡ M
zero_product kz kx ky s e = go kx ky kz M H U (apart kx M) (apart ky M) (unfold apart in none ky M e) e half_pos
    (unit_pos binary64) s
  where
    half_pos : 0 < H
    half_pos = unfold half in leb→le _ _ tt

    none : (a b : ℕ) → a ≡ b → a - b + (b - a) ≡ 0
    none a b e = omega arith

    go : (a b k m c v s t : ℕ) → t ≡ 0 → b ≡ m → 0 < c → 0 < v
        → Close (2 * c * (k * v + (m * a + m * b))) (2 * c * (m * v + (a * b + m * m))) (s * t + c * v) → k ≡ m
    go a b k m c v s t z e p q h =
        let r : 0 < c * v = mul-pos p q in
        let l : c * v * (2 * k) ≤ c * v * (2 * m + 1) =
        omega (arith, h.over, ap (λ y. c * a * y) e, ap (λ y. c * m * y) e, ap (λ y. s * y) z) in
        let g : c * v * (2 * m) ≤ c * v * (2 * k + 1) =
        omega (arith, h.under, ap (λ y. c * a * y) e, ap (λ y. c * m * y) e, ap (λ y. s * y) z) in
        same (le_of_mul-le-mul_left l r) (le_of_mul-le-mul_left g r)
      where
        same : 2 * k ≤ 2 * m + 1 → 2 * m ≤ 2 * k + 1 → k ≡ m
        same l g = omega arith

module _ (x y : Float) (X : Finite 200 x) (Y : Finite 200 y) where
  pub product_of : Product M U H (K (x ⊗ y)) (K x) (K y)
  product_of = mul_share binary64 x y X.bounded.sure Y.bounded.sure (apart (K x) M * apart (K y) M + H * U)
      (more _ (H * U)) (less _ (H * U))
      (le_trans (sum _ _ (H * U) (mul-le-mul (size_of X) (size_of Y))) room)
    where
      more : (a b : ℕ) → a ≤ a + b
      more a b = omega arith

      less : (a b : ℕ) → b ≤ a + b
      less a b = omega arith

      sum : (a b c : ℕ) → a ≤ b → a + c ≤ b + c
      sum a b c h = omega arith

  pub sum_of : Sum M U H (K (x ⊕ y)) (K x) (K y)
  sum_of = sum_share binary64 1274 x y X.bounded Y.bounded (lit< tt)

  apart_sum : apart (K x) (K y) ≤ apart (K x) M + apart (K y) M
  apart_sum = apart_most (K x) (K y) _ (go (K x) (K y) M _ _ (apart_over (K x) M) (apart_under (K y) M))
      (back (K y) (K x) M _ _ (apart_over (K y) M) (apart_under (K x) M))
    where
      go : (a b m s t : ℕ) → a ≤ m + s → m ≤ b + t → a ≤ b + (s + t)
      go a b m s t h k = omega arith

      back : (a b m s t : ℕ) → a ≤ m + s → m ≤ b + t → a ≤ b + (t + s)
      back a b m s t h k = omega arith

  apart_room : apart (K x) (K y) ≤ M
  apart_room = le_trans apart_sum (le_trans (both _ _ (2 ^ 1274) (size_of X) (size_of Y)) wide)
    where
      both : (a b c : ℕ) → a ≤ c → b ≤ c → a + b ≤ c + c
      both a b c h k = omega arith

  pub exact_difference : Close (2 * H * (K (x ⊖ y) + K y)) (2 * H * (M + K x)) (apart (K x) (K y))
  exact_difference = sub_share binary64 x y X.bounded.sure Y.bounded.sure apart_room

  pub difference_of : Difference M U H (K (x ⊖ y)) (K x) (K y)
  difference_of = wider _ _ _ _ apart_sum exact_difference

  -- ---- a side's length, with its sign
  pub length_of : (u : ℕ) (small : Small U u H (apart (K x) (K y)))
      → Length M U u H (apart (K x) (K y)) small (K (x ⊖ y)) (K x - K y) (K y - K x)
  length_of u small = go (K x) (K y) (K (x ⊖ y)) M H (apart (K x) (K y)) small (apart_split (K x) (K y)) exact_difference
    where
      go : (a b k m c h : ℕ) (small : Small U u c h) → (b ≡ a + h) ⊎ (a ≡ b + h) → Close (2 * c * (k + b)) (2 * c * (m + a)) h
          → Length m U u c h small k (a - b) (b - a)
      go a b k m c h small e s = record {
        near = shape a b k m c h (a - b) (b - a) (let z : a + (b - a) ≡ b + (a - b) = omega arith in z) s;
        exact = far a b k m c h e;
        turn = signs a b k m c h e;
      }

  -- of a side parallel to the other axis it is zero
  pub no_length : K x ≡ K y → K (x ⊖ y) ≡ M
  no_length e = go (K x) (K y) (K (x ⊖ y)) M H (apart (K x) (K y)) (unfold apart in none (K x) (K y) e) half_pos e
      exact_difference
    where
      half_pos : 0 < H
      half_pos = unfold half in leb→le _ _ tt

      none : (a b : ℕ) → a ≡ b → a - b + (b - a) ≡ 0
      none a b e = omega arith

      go : (a b k m c h : ℕ) → h ≡ 0 → 0 < c → a ≡ b → Close (2 * c * (k + b)) (2 * c * (m + a)) h → k ≡ m
      go a b k m c h z p e s =
          let l : 2 * c * k ≤ 2 * c * m = omega (arith, s.over, ap (λ y. 2 * c * y) e) in
          let g : 2 * c * m ≤ 2 * c * k = omega (arith, s.under, ap (λ y. 2 * c * y) e) in
          let q : 0 < 2 * c = omega arith in
          le_antisymm (le_of_mul-le-mul_left l q) (le_of_mul-le-mul_left g q)

  -- a way: within the bounds
  pub way_of : (e h : ℕ) (small : Small U (2 ^ e) H h) → 2 ^ (prec binary64 + suc e) ≤ M → Close (K x) (K y) (4 * H * 2 ^ e)
      → Way M U (2 ^ e) H h small (K (x ⊖ y)) (K x) (K y)
  way_of e h small r c = record {
    near = go _ _ _ M _ (sub_close binary64 x y X.bounded.sure Y.bounded.sure e r
        (wider _ _ _ _ (le_of_eq (sym (power_1 binary64 e))) c));
    exact = c;
  }
    where
      go : (k a b m g : ℕ) → Close (k + b) (m + a) g → Close (k * 1 + b) (m * 1 + a) g
      go k a b m g s = record { over = omega (arith, s.over); under = omega (arith, s.under) }

  -- a product with zero
  pub no_product : K y ≡ M → K (x ⊗ y) ≡ M
  no_product = zero_product (K (x ⊗ y)) (K x) (K y) product_of

-- ---- a quotient by a positive value, against 0 and 1
module _ (f : Format) (n d : Float) (N : T (finite_number f n)) (D : T (finite_number f d)) (d⁺ : mid f < key f d) where
  abbrev over : ℕ
  over = key f d - mid f

  over⁺ : 0 < over
  over⁺ = omega (arith, d⁺)

  quotient : key f (div f n d) ≡ round_key f (positive_part f n * unit f) (negative_part f n * unit f) over
  quotient = div_key f n d N D d⁺

  before : key f (div f n d) < mid f → key f n ≤ mid f
  before h = elim (decide (key f n) (mid f)) [ inl l ↦ l | inr l ↦ absurd (clash l) ]
    where
      clash : mid f < key f n → ⊥
      clash l =
          let z : negative_part f n ≡ 0 = omega arith in
          let m = round_key_mono f 0 0 over (positive_part f n * unit f) (negative_part f n * unit f) over over⁺ over⁺
          (rw z (go (positive_part f n * unit f) over (unit f))) in
          let s = round_key_side f false 0 0 0 over over⁺ refl in
          omega (arith, quotient)
        where
          go : (a c v : ℕ) → 0 * c + 0 * v * c ≤ a * c + 0 * c
          go a c v = omega arith

  beyond : mid f + unit f < key f (div f n d) → key f d ≤ key f n
  beyond h = elim (decide (key f d) (key f n)) [ inl l ↦ l | inr l ↦ absurd (clash l) ]
    where
      clash : key f n < key f d → ⊥
      clash l =
          let z : positive_part f n ≤ over = omega arith in
          let m = round_key_mono f (positive_part f n * unit f) (negative_part f n * unit f) over (1 * 2 ^ low f * over) 0 over over⁺
          over⁺ (go _ _ z) in
          let s = (round_key_within f (1 * 2 ^ low f * over) 0 over 1 (low f) over⁺ (one_lt f) (omega arith) (omega arith)).1 in
          omega (arith, quotient, one)
        where
          one : 1 * 2 ^ low f ≡ unit f
          one = unfold unit in one-mul (2 ^ low f)

          go : (a b : ℕ) → a ≤ over → a * unit f * over + 0 * over ≤ 1 * 2 ^ low f * over * over + b * unit f * over
          go a b h = rw one (step over (unit f) (mul-le-mul_right (unit f * over) h))
            where
              step : (o v : ℕ) → a * (v * o) ≤ o * (v * o) → a * v * o + 0 * o ≤ v * o * o + b * v * o
              step o v h = omega arith

module _ (n d : Float) (N : Finite 200 n) (D : Finite 200 d) (d⁺ : M < K d) where
  abbrev F : ℕ
  F = K d - M

  pub quotient_before : K (n ⊘ d) < M → K n ≤ M
  quotient_before = before binary64 n d N.bounded.sure D.bounded.sure d⁺

  pub quotient_beyond : M + U < K (n ⊘ d) → K d ≤ K n
  quotient_beyond = beyond binary64 n d N.bounded.sure D.bounded.sure d⁺

  pub quotient_inside : (T : ℕ) → K (n ⊘ d) ≡ M + T → T ≤ U → Close (2 * H * (T * F + M * U)) (2 * H * (K n * U)) (U * F)
  quotient_inside T q l =
      go (K (n ⊘ d)) q (div_share binary64 n d N.bounded.sure D.bounded.sure U (U * F) d⁺ (omega (arith, q))
      (most (K (n ⊘ d)) M T U q l) one_lt_mid (le_refl (U * F)) (mul-le-mul_right F half_one))
    where
      most : (k m t v : ℕ) → k ≡ m + t → t ≤ v → k ≤ m + v
      most k m t v e h = omega arith

      one_lt_mid : U < M
      one_lt_mid = unfold unit mid in leb→le _ _ tt

      half_one : H ≤ U
      half_one = unfold half unit in leb→le _ _ tt

      go : (z : ℕ) → z ≡ M + T → Close (2 * H * (z * F + M * U)) (2 * H * (M * F + K n * U)) (U * F)
          → Close (2 * H * (T * F + M * U)) (2 * H * (K n * U)) (U * F)
      go z e c = step T M F U H (K n) (rw e at c)
        where
          step : (t M F U K N : ℕ) → Close (2 * K * ((M + t) * F + M * U)) (2 * K * (M * F + N * U)) (U * F)
              → Close (2 * K * (t * F + M * U)) (2 * K * (N * U)) (U * F)
          step t M F U K N c = record { over = omega (arith, c.over); under = omega (arith, c.under) }
