-- THE PLACE s, from its numerator and denominator: v is K u u, a share of it bounds what each may miss by. Where the denominator
-- is positive the quotient's residual is at most 1024 v for each U; where it is not, or no larger than the threshold, the edge is
-- flat across the side.
use Prim.Native.Nat.{◌*◌, ◌+◌, ◌<◌, ℕ, ◌≤◌}
use mathlib.Core.Logic.{inl, inr, ◌⊎◌}
use mathlib.Core.Path.{◌≡◌, ap, refl}
use native.Mathlib.Nat.{le_of_mul-le-mul_left, le_trans, mul-le-mul_left, mul-le-mul_right}
use native.Mathlib.Omega.{arith}
use Rattle.arith.specs.Whole.{apart}
use Rattle.arith.proofs.Laws.RoundingError.{Close}
use Rattle.truth.proofs.Points.Lagrange.{apart_split, sqd_is}
use Rattle.arith.proofs.Laws.OperationErrors.{cancel}
use Rattle.truth.proofs.Boxes.Across.{at_first, at_last, Best, flat, inner}
use Rattle.truth.proofs.Boxes.Beside.{root_le}
use Rattle.truth.proofs.Boxes.Signed.{Near}

-- q is h h and w is U U U; g is D g, D the edge's way across and g that from the side to the edge's first end
module _ (M U K v q w : ℕ) (K⁺ : 1024 ≤ K) (q⁺ : 0 < q) (g_p g_n DP DN kn kf : ℕ)
    (num : Near M w kn (g_n * q) (g_p * q) (491 * (v * q))) (den : Near M w kf (DP * q) (DN * q) (491 * (v * q))) where
  less : (x y e : ℕ) → x * q ≤ y * q + e * q → x ≤ y + e
  less x y e h = le_of_mul-le-mul_left (let z : q * x ≤ q * (y + e) = omega arith in z) q⁺

  pub low : kn ≤ M → g_n ≤ g_p + 491 * v
  low h = less g_n g_p (491 * v) (let l = mul-le-mul_right w h in omega (arith, num.under))

  pub high : kf ≤ kn → DP + g_p ≤ DN + g_n + 982 * v
  high h = less (DP + g_p) (DN + g_n) (982 * v) (let l = mul-le-mul_right w h in omega (arith, num.over, den.under))

  pub thin : (tiny : ℕ) → kf ≤ M + tiny → tiny * w ≤ 500 * (v * q) → DP ≤ DN + 991 * v
  thin tiny h t = less DP DN (991 * v) (let l = mul-le-mul_right w h in omega (arith, den.under))

  -- a positive denominator, F, and a quotient T / U from 0 to 1
  module _ (F T : ℕ) (is : kf ≡ M + F) (T⁺ : T ≤ U) (wide : Close DP DN (16 * (K * v)))
      (div : Close (2 * K * (T * F + M * U)) (2 * K * (kn * U)) (U * F)) where
    sized : F * w ≤ 17 * (K * v * q)
    sized = go (F * w) (M * w) (kf * w) (ap (λ z. z * w) is) (mul-le-mul_right q wide.over) (mul-le-mul_right (v * q) K⁺)
        den.over
      where
        go : (x m k : ℕ) → k ≡ (M + F) * w → DP * q ≤ (DN + 16 * (K * v)) * q → 1024 * (v * q) ≤ K * (v * q)
            → kf * w + DN * q ≤ M * w + DP * q + 491 * (v * q) → F * w ≤ 17 * (K * v * q)
        go x m k e a b c = omega (arith, ap (λ z. z * w) is)

    quotient : Close (2 * (T * (F * w) + M * w * U)) (2 * (kn * w * U)) (17 * (U * v * q))
    quotient = cancel K _ _ _ (let z : 0 < K = omega arith in z)
        (go (F * w) refl sized (mul-le-mul_right w div.over) (mul-le-mul_right w div.under))
      where
        go : (f : ℕ) → f ≡ F * w → f ≤ 17 * (K * v * q) → 2 * K * (T * F + M * U) * w ≤ (2 * K * (kn * U) + U * F) * w
            → 2 * K * (kn * U) * w ≤ (2 * K * (T * F + M * U) + U * F) * w
            → Close (K * (2 * (T * (F * w) + M * w * U))) (K * (2 * (kn * w * U))) (K * (17 * (U * v * q)))
        go f e a b c = record {
          over = omega (arith, mul-le-mul_left U a, ap (λ z. U * z) e);
          under = omega (arith, mul-le-mul_left U a, ap (λ z. U * z) e);
        }

    pub residual : Close (T * DP + U * g_p) (T * DN + U * g_n) (U * (1024 * v))
    residual = cancel q _ _ _ q⁺ (go (F * w) (kn * w) (M * w) (kf * w) (parts kf is) num den quotient
        (mul-le-mul_right (491 * (v * q)) T⁺))
      where
        parts : (k : ℕ) → k ≡ M + F → k * w ≡ M * w + F * w
        parts k e = rw e (let z : (M + F) * w ≡ M * w + F * w = omega arith in z)

        go : (f n m k : ℕ) → k ≡ m + f → Close (n + g_p * q) (m + g_n * q) (491 * (v * q))
            → Close (k + DN * q) (m + DP * q) (491 * (v * q))
            → Close (2 * (T * f + m * U)) (2 * (n * U)) (17 * (U * v * q)) → T * (491 * (v * q)) ≤ U * (491 * (v * q))
            → Close (q * (T * DP + U * g_p)) (q * (T * DN + U * g_n)) (q * (U * (1024 * v)))
        go f n m k e a b c t = record {
          over = omega (arith, c.over, mul-le-mul_left U a.over, mul-le-mul_left T b.under, ap (λ z. T * z) e);
          under = omega (arith, c.under, mul-le-mul_left U a.under, mul-le-mul_left T b.over, ap (λ z. T * z) e);
        }

-- ---- the edge from A to B, the side at Q: D is B - A and g is A - Q
-- a product of two differences is no smaller than their sizes'
sizes : (A B X Y e : ℕ) → Close (B * X + A * Y) (A * X + B * Y) e → apart A B * apart X Y ≤ e
sizes A B X Y e c = go A B X Y (apart A B) (apart X Y) (apart_split A B) (apart_split X Y) c
  where
    go : (A B X Y D s : ℕ) → (B ≡ A + D) ⊎ (A ≡ B + D) → (Y ≡ X + s) ⊎ (X ≡ Y + s) → Close (B * X + A * Y) (A * X + B * Y) e
        → D * s ≤ e
    go A B X Y D s (inl o) (inl p) = rw (o, p) (λ c. omega (arith, c.under))
    go A B X Y D s (inl o) (inr p) = rw (o, p) (λ c. omega (arith, c.over))
    go A B X Y D s (inr o) (inl p) = rw (o, p) (λ c. omega (arith, c.over))
    go A B X Y D s (inr o) (inr p) = rw (o, p) (λ c. omega (arith, c.under))

module _ (ε v A B Q : ℕ) (ε⁺ : 1024 * v ≤ ε * ε) where
  abbrev DP : ℕ
  DP = B * B + A * A

  abbrev DN : ℕ
  DN = B * A + A * B

  abbrev g_p : ℕ
  g_p = B * A + A * Q

  abbrev g_n : ℕ
  g_n = B * Q + A * A

  -- flat across
  pub best_flat : (S T : ℕ) → DP ≤ DN + 991 * v → Best ε S T A B Q
  best_flat S T h = flat ε S T A B Q (root_le (apart A B) ε
      (le_trans (sizes A B A B (991 * v) (record { over = omega (arith, square); under = omega arith })) (go v ε⁺)))
    where
      square : B * A + A * B ≤ B * B + A * A
      square = omega (arith, sqd_is A B)

      go : (v : ℕ) → 1024 * v ≤ ε * ε → 991 * v ≤ ε * ε
      go v h = omega arith

  pub best_first : (S : ℕ) → g_n ≤ g_p + 491 * v → Best ε S 0 A B Q
  best_first S h = at_first ε S A B Q (omega arith)

  pub best_last : (T : ℕ) → DP + g_p ≤ DN + g_n + 982 * v → Best ε 0 T A B Q
  best_last T h = at_last ε T A B Q (omega arith)

  pub best_inner : (S T : ℕ) → Close (T * DP + (S + T) * g_p) (T * DN + (S + T) * g_n) ((S + T) * (1024 * v)) → Best ε S T A B Q
  best_inner S T c = inner ε S T A B Q (le_trans
      (sizes A B (S * A + T * B) ((S + T) * Q) _ (record { over = omega (arith, c.over); under = omega (arith, c.under) }))
      (mul-le-mul_left (S + T) ε⁺))
