-- WHAT THE QUOTIENT MISSES: x less y is the exact w · d, L the exact d · d, S the sum of d's sizes; kN and kL are the keys of the
-- two as rounded, and T is their quotient as rounded and clamped. T L less U (x - y) is at most 27 U u S, or it is so on the side
-- that counts.
use Prim.Native.Nat.{◌*◌, ◌+◌, ◌<◌, ℕ, ◌≤◌}
use mathlib.Core.Path.{◌≡◌}
use native.Mathlib.Nat.{le_of_eq, le_trans, mul-le-mul_left, mul-le-mul_right}
use native.Mathlib.Omega.{arith}
use Rattle.arith.proofs.Laws.RoundingError.{Close}
use Rattle.arith.proofs.Laws.OperationErrors.{cancel}

times : (k x y h : ℕ) → Close x y h → Close (k * x) (k * y) (k * h)
times k x y h c = record {
  over = le_trans (mul-le-mul_left k c.over) (le_of_eq (sums y));
  under = le_trans (mul-le-mul_left k c.under) (le_of_eq (sums x));
}
  where
    sums : (z : ℕ) → k * (z + h) ≡ k * z + k * h
    sums z = omega arith

module _ (M U v K x y L kN : ℕ) (K⁺ : 8 ≤ K) (dot : Close (2 * (kN * U + y)) (2 * (M * U + x)) (27 * v + 4 * U))
    (small : 3 * U ≤ v)
    (span : L ≤ 4 * K * v) where
  pub low_miss : kN ≤ M → U * x ≤ U * y + 27 * (U * v)
  low_miss h = go (mul-le-mul_left U (half (mul-le-mul_right U h)))
    where
      half : kN * U ≤ M * U → x ≤ y + 27 * v
      half h = omega (arith, dot.under)

      go : U * x ≤ U * (y + 27 * v) → U * x ≤ U * y + 27 * (U * v)
      go h = omega arith

  module _ (F : ℕ) (len : Close (2 * ((M + F) * U)) (2 * (M * U + L)) (18 * v + 4 * U)) where
    pub high_miss : M + F ≤ kN → U * (y + L) ≤ U * x + 27 * (U * v)
    high_miss h = go (mul-le-mul_left U (half (mul-le-mul_right U h)))
      where
        half : (M + F) * U ≤ kN * U → y + L ≤ x + 27 * v
        half h = omega (arith, dot.over, len.under)

        go : U * (y + L) ≤ U * (x + 27 * v) → U * (y + L) ≤ U * x + 27 * (U * v)
        go h = omega arith

    k⁺ : 0 < 2 * K
    k⁺ = omega arith

    length : Close (2 * (F * U)) (2 * L) (18 * v + 4 * U)
    length = record { over = omega (arith, len.over); under = omega (arith, len.under) }

    room : 2 * (F * U) ≤ 2 * K * (6 * v + U)
    room = go (mul-le-mul_right v k) (mul-le-mul_right U k) length.over
      where
        k : 16 ≤ 2 * K
        k = omega arith

        go : 16 * v ≤ 2 * K * v → 16 * U ≤ 2 * K * U → 2 * (F * U) ≤ 2 * L + (18 * v + 4 * U) → 2 * (F * U) ≤ 2 * K * (6 * v + U)
        go a b c = omega arith

    module _ (T : ℕ) (T⁺ : T ≤ U) (div : Close (2 * K * (T * F + M * U)) (2 * K * (kN * U)) (U * F)) where
      quotient : Close (2 * (T * F * U + M * U * U)) (2 * (kN * U * U)) (U * (6 * v + U))
      quotient = cancel (2 * K) _ _ _ k⁺ (go (times (2 * U) _ _ _ div) (mul-le-mul_left U room))
        where
          go : Close (2 * U * (2 * K * (T * F + M * U))) (2 * U * (2 * K * (kN * U))) (2 * U * (U * F))
              → U * (2 * (F * U)) ≤ U * (2 * K * (6 * v + U))
              → Close (2 * K * (2 * (T * F * U + M * U * U))) (2 * K * (2 * (kN * U * U))) (2 * K * (U * (6 * v + U)))
          go c h = record { over = omega (arith, c.over); under = omega (arith, c.under) }

      pub inner_miss : Close (T * L + U * y) (U * x) (27 * (U * v))
      inner_miss =
          go (times T _ _ _ length) (mul-le-mul_right (18 * v + 4 * U) T⁺) (times U _ _ _ dot) quotient (mul-le-mul_left U small)
        where
          go : Close (T * (2 * (F * U))) (T * (2 * L)) (T * (18 * v + 4 * U)) → T * (18 * v + 4 * U) ≤ U * (18 * v + 4 * U)
              → Close (U * (2 * (kN * U + y))) (U * (2 * (M * U + x))) (U * (27 * v + 4 * U))
              → Close (2 * (T * F * U + M * U * U)) (2 * (kN * U * U)) (U * (6 * v + U)) → U * (3 * U) ≤ U * v
              → Close (T * L + U * y) (U * x) (27 * (U * v))
          go a b c d e =
              record { over = omega (arith, a.under, c.over, d.over); under = omega (arith, a.over, c.under, d.under) }
