-- THE FOOT: the point of the segment at T / U, where T is the rounded and clamped quotient of the dot products, is no farther
-- from P than any other point of the segment but for a few u. By Lagrange's identity the square of what T misses the foot of the
-- perpendicular by, over the segment's length, is all that it can lose.
use Prim.Native.Nat.{◌*◌, ◌+◌, ◌-◌, ◌<◌, ℕ, ◌≤◌}
use mathlib.Core.Logic.{inl, inr}
use mathlib.Core.Path.{◌≡◌, ap, sym, ◌∙◌}
use native.Mathlib.Nat.{le_of_eq, le_of_lt, le_of_mul-le-mul_left, le_trans, mul-le-mul, mul-le-mul_left, mul-le-mul_right}
use native.Mathlib.Nat.{mul-pos}
use native.Mathlib.Omega.{arith}
use Rattle.arith.proofs.roots.Numbers.{decide}
use Rattle.arith.proofs.Laws.RoundingError.{Close}
use Rattle.arith.specs.Whole.{apart}
use Rattle.truth.specs.Exact.{sqd}
use Rattle.truth.proofs.Points.Lagrange.{apart², lagrange, length², line², missing², sqd_is, sqd_scale}
use Rattle.arith.proofs.Laws.OperationErrors.{apart_most}

-- ---- squares of differences
pub sqd_most : (a b h : ℕ) → Close a b h → sqd a b ≤ h * h
unfolding sqd
sqd_most a b h c = let l = apart_most a b h c.over c.under in mul-le-mul l l

pub sqd_farther : (a b c : ℕ) → a ≤ b → b ≤ c → sqd a b ≤ sqd a c
unfolding sqd apart
sqd_farther a b c h k = let l : a - b + (b - a) ≤ a - c + (c - a) = omega arith in mul-le-mul l l

pub sqd_farther_down : (a b c : ℕ) → b ≤ a → c ≤ b → sqd a b ≤ sqd a c
unfolding sqd apart
sqd_farther_down a b c h k = let l : a - b + (b - a) ≤ a - c + (c - a) = omega arith in mul-le-mul l l

-- ---- x and y are the sums of products on both sides of w · d, L is d · d, and B bounds what T misses
module _ (U T x y L B : ℕ) where
  -- what T loses to i / n
  abbrev pub Loss : ℕ → ℕ → Type 0
  Loss n i = n * n * sqd (U * x) (U * y + T * L) ≤ U * U * sqd (n * x) (n * y + i * L) + n * n * (B * B)

  most : (n i : ℕ) → sqd (U * x) (U * y + T * L) ≤ B * B → Loss n i
  most n i h = le_trans (mul-le-mul_left (n * n) h) (go (U * U * sqd (n * x) (n * y + i * L)) (n * n * (B * B)))
    where
      go : (a b : ℕ) → b ≤ a + b
      go a b = omega arith

  pub between : Close (T * L + U * y) (U * x) B → (n i : ℕ) → Loss n i
  between c n i =
      most n i (sqd_most (U * x) (U * y + T * L) B (record { over = omega (arith, c.under); under = omega (arith, c.over) }))

-- T is 0: the foot lies before the segment, or not far into it
module _ (U x y L B : ℕ) where
  pub before : U * x ≤ U * y + B → (n i : ℕ) → Loss U 0 x y L B n i
  before h n i = elim (decide x y) [
    | inl l ↦
        let e : n * n * sqd (U * x) (U * y + 0 * L) ≡ U * U * sqd (n * x) (n * y) =
        ap (λ z. n * n * sqd (U * x) z) (let q : U * y + 0 * L ≡ U * y = omega arith in q)
        ∙ ap (λ z. n * n * z) (sqd_scale U x y) ∙ swap (sqd x y) ∙ ap (λ z. U * U * z) (sym (sqd_scale n x y)) in
        let k = mul-le-mul_left (U * U) (sqd_farther (n * x) (n * y) (n * y + i * L) (mul-le-mul_left n l) (more (n * y) (i * L)))
        in
        le_trans (le_of_eq e) (le_trans k (more (U * U * sqd (n * x) (n * y + i * L)) (n * n * (B * B))))
    | inr l ↦ most U 0 x y L B n i (sqd_most (U * x) (U * y + 0 * L) B (record {
      over = omega arith;
      under = omega (arith, mul-le-mul_left U (le_of_lt l));
    }))
  ]
    where
      more : (a b : ℕ) → a ≤ a + b
      more a b = omega arith

      swap : (z : ℕ) → n * n * (U * U * z) ≡ U * U * (n * n * z)
      swap z = omega arith

-- T is U: it lies beyond, or not far before the end
module _ (U x y L B : ℕ) where
  pub beyond : U * (y + L) ≤ U * x + B → (n i : ℕ) → i ≤ n → Loss U U x y L B n i
  beyond h n i o = elim (decide (y + L) x) [
    | inl l ↦
        let e : n * n * sqd (U * x) (U * y + U * L) ≡ U * U * sqd (n * x) (n * (y + L)) =
        ap (λ z. n * n * sqd (U * x) z) (let q : U * y + U * L ≡ U * (y + L) = omega arith in q)
        ∙ ap (λ z. n * n * z) (sqd_scale U x (y + L)) ∙ swap (sqd x (y + L))
        ∙ ap (λ z. U * U * z) (sym (sqd_scale n x (y + L))) in
        let m : n * y + i * L ≤ n * (y + L) = within (mul-le-mul_right L o) in
        let k = mul-le-mul_left (U * U) (sqd_farther_down (n * x) (n * (y + L)) (n * y + i * L) (mul-le-mul_left n l) m) in
        le_trans (le_of_eq e) (le_trans k (more (U * U * sqd (n * x) (n * y + i * L)) (n * n * (B * B))))
    | inr l ↦ most U U x y L B n i (sqd_most (U * x) (U * y + U * L) B (record {
      over = omega (arith, mul-le-mul_left U (le_of_lt l));
      under = omega arith;
    }))
  ]
    where
      more : (a b : ℕ) → a ≤ a + b
      more a b = omega arith

      within : i * L ≤ n * L → n * y + i * L ≤ n * (y + L)
      within h = omega arith

      swap : (z : ℕ) → n * n * (U * U * z) ≡ U * U * (n * n * z)
      swap z = omega arith

-- ---- so much farther than the point at i / n is the one at T / U at most
module _ (A D P a d p U T b : ℕ) (long : 0 < D + d) where
  pub nearly : (n i : ℕ) → Loss U T (P * D + p * d) (A * D + a * d) (D * D + d * d) (b * (D + d)) n i
      → n * n * apart² A D P a d p U T ≤ U * U * apart² A D P a d p n i + 2 * (n * n * (b * b))
  unfolding missing² length²
  nearly n i loss =
      let g = lagrange A D P a d p U T in
      let h = lagrange A D P a d p n i in
      le_of_mul-le-mul_left
      (step (D * D + d * d) (apart² A D P a d p U T) (apart² A D P a d p n i) (line² A D P a d p) (missing² A D P a d p U T)
      (missing² A D P a d p n i)
      (b * (D + d) * (b * (D + d))) g h loss squares)
      positive
    where
      twice : (D + d) * (D + d) ≤ 2 * (D * D + d * d)
      twice = omega (arith, sqd_is D d)

      positive : 0 < D * D + d * d
      positive = omega (arith, twice, mul-pos long long)

      squares : b * (D + d) * (b * (D + d)) ≤ 2 * ((D * D + d * d) * (b * b))
      squares = omega (arith, mul-le-mul_left (b * b) twice)

      step : (L F G l m k B : ℕ) → L * F ≡ U * U * l + m → L * G ≡ n * n * l + k → n * n * m ≤ U * U * k + n * n * B
          → B ≤ 2 * (L * (b * b))
          → L * (n * n * F) ≤ L * (U * U * G + 2 * (n * n * (b * b)))
      step L F G l m k B g h o s =
          omega (arith, ap (λ z. n * n * z) g, ap (λ z. U * U * z) h, mul-le-mul_left (n * n) s)
