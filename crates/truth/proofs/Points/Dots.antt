-- THE TWO DOT PRODUCTS of the closest point, of two coordinates: what was rounded against the exact w · d and d · d. M, U, u, K
-- and T are as in Side; A, D, P and kl, kn, kx are one coordinate's, a, d, p and hl, hn, hx the other's.
use Prim.Native.Nat.{◌*◌, ◌+◌, ◌<◌, ℕ, ◌≤◌}
use mathlib.Core.Logic.{inl, inr, ◌⊎◌}
use mathlib.Core.Path.{◌≡◌, ap}
use native.Mathlib.Nat.{le_trans, mul-le-mul_right}
use native.Mathlib.Omega.{arith}
use Rattle.arith.proofs.Laws.RoundingError.{Close}
use Rattle.arith.specs.Whole.{apart}
use Rattle.truth.proofs.Points.Lagrange.{apart_split}
use Rattle.arith.proofs.Laws.OperationErrors.{cancel}
use Rattle.truth.proofs.Points.Side.{Side}

-- how far a key lies from M, in steps of U
pub apart_times : (k M U h : ℕ) → Close (2 * (k * U)) (2 * (M * U)) h → 2 * (apart k M * U) ≤ h
apart_times k M U h c = go k M (apart k M) (apart_split k M) c
  where
    go : (k M s : ℕ) → (M ≡ k + s) ⊎ (k ≡ M + s) → Close (2 * (k * U)) (2 * (M * U)) h → 2 * (s * U) ≤ h
    go k M s (inl e) c = omega (arith, c.under, ap (λ z. z * U) e)
    go k M s (inr e) c = omega (arith, c.over, ap (λ z. z * U) e)

module _ (M U u K T : ℕ) (K⁺ : 8 ≤ K) where
  k⁺ : 0 < 2 * K
  k⁺ = omega arith

  sixteen : (z : ℕ) → 16 * z ≤ 2 * K * z
  sixteen z = mul-le-mul_right z (let h : 16 ≤ 2 * K = omega arith in h)

  -- a sum, by the sizes of its parts
  sum_close : (kx ky ks g h : ℕ) → Close (2 * K * (ks + M)) (2 * K * (kx + ky)) (apart kx M + apart ky M)
      → 2 * (apart kx M * U) ≤ 2 * K * g → 2 * (apart ky M * U) ≤ 2 * K * h
      → Close (2 * (ks * U + M * U)) (2 * (kx * U + ky * U)) (g + h)
  sum_close kx ky ks g h c x y =
      cancel (2 * K) (2 * (ks * U + M * U)) (2 * (kx * U + ky * U)) (g + h) k⁺ (record {
        over = omega (arith, mul-le-mul_right U c.over);
        under = omega (arith, mul-le-mul_right U c.under);
      })

  module _ (A D P kl kn kx : ℕ) (s : Side M U u K T A D P kl kn kx) where
    n_size : 2 * (apart kn M * U) ≤ 2 * K * (8 * (u * D) + U)
    n_size =
        le_trans (apart_times kn M U (12 * (K * (u * D)) + 19 * (u * D) + U)
        (go s.n_close (mul-le-mul_right D s.reach.over) (mul-le-mul_right D s.reach.under)))
        (room (u * D) (sixteen (u * D)) (sixteen U))
      where
        go : Close (2 * (kn * U + A * D)) (2 * (M * U + P * D)) (19 * (u * D) + U) → P * D ≤ (A + 6 * K * u) * D
            → A * D ≤ (P + 6 * K * u) * D
            → Close (2 * (kn * U)) (2 * (M * U)) (12 * (K * (u * D)) + 19 * (u * D) + U)
        go c o v = record { over = omega (arith, c.over); under = omega (arith, c.under) }

        room : (v : ℕ) → 16 * v ≤ 2 * K * v → 16 * U ≤ 2 * K * U → 12 * (K * v) + 19 * v + U ≤ 2 * K * (8 * v + U)
        room v h k = omega arith

    l_size : 2 * (apart kl M * U) ≤ 2 * K * (5 * (u * D) + U)
    l_size =
        le_trans (apart_times kl M U (8 * (K * (u * D)) + 13 * (u * D) + U) (go s.l_close (mul-le-mul_right D s.span)))
        (room (u * D) (sixteen (u * D)) (sixteen U))
      where
        go : Close (2 * (kl * U)) (2 * (M * U + D * D)) (13 * (u * D) + U) → D * D ≤ 4 * K * u * D
            → Close (2 * (kl * U)) (2 * (M * U)) (8 * (K * (u * D)) + 13 * (u * D) + U)
        go c o = record { over = omega (arith, c.over); under = omega (arith, c.under) }

        room : (v : ℕ) → 16 * v ≤ 2 * K * v → 16 * U ≤ 2 * K * U → 8 * (K * v) + 13 * v + U ≤ 2 * K * (5 * v + U)
        room v h k = omega arith

  module _ (A D P kl kn kx : ℕ) (s : Side M U u K T A D P kl kn kx) (a d p hl hn hx : ℕ) (r : Side M U u K T a d p hl hn hx) where
    -- w · d
    pub dot_close : (kN : ℕ) → Close (2 * K * (kN + M)) (2 * K * (kn + hn)) (apart kn M + apart hn M)
        → Close (2 * (kN * U + (A * D + a * d))) (2 * (M * U + (P * D + p * d))) (27 * (u * (D + d)) + 4 * U)
    dot_close kN c =
        last (kN * U) (M * U) (kn * U) (hn * U) (A * D) (a * d) (P * D) (p * d) (u * D) (u * d) (u * (D + d)) (parts u)
        (sum_close kn hn kN (8 * (u * D) + U) (8 * (u * d) + U) c (n_size A D P kl kn kx s) (n_size a d p hl hn hx r))
        s.n_close r.n_close
      where
        parts : (u : ℕ) → u * (D + d) ≡ u * D + u * d
        parts u = omega arith

        last : (N O x y a b p q v w z : ℕ) → z ≡ v + w → Close (2 * (N + O)) (2 * (x + y)) (8 * v + U + (8 * w + U))
            → Close (2 * (x + a)) (2 * (O + p)) (19 * v + U) → Close (2 * (y + b)) (2 * (O + q)) (19 * w + U)
            → Close (2 * (N + (a + b))) (2 * (O + (p + q))) (27 * z + 4 * U)
        last N O x y a b p q v w z e f g h = record {
          over = omega (arith, f.over, g.over, h.over);
          under = omega (arith, f.under, g.under, h.under);
        }

    -- d · d
    pub length_close : (kL : ℕ) → Close (2 * K * (kL + M)) (2 * K * (kl + hl)) (apart kl M + apart hl M)
        → Close (2 * (kL * U)) (2 * (M * U + (D * D + d * d))) (18 * (u * (D + d)) + 4 * U)
    length_close kL c =
        last (kL * U) (M * U) (kl * U) (hl * U) (D * D) (d * d) (u * D) (u * d) (u * (D + d)) (parts u)
        (sum_close kl hl kL (5 * (u * D) + U) (5 * (u * d) + U) c (l_size A D P kl kn kx s) (l_size a d p hl hn hx r))
        s.l_close r.l_close
      where
        parts : (u : ℕ) → u * (D + d) ≡ u * D + u * d
        parts u = omega arith

        last : (N O x y p q v w z : ℕ) → z ≡ v + w → Close (2 * (N + O)) (2 * (x + y)) (5 * v + U + (5 * w + U))
            → Close (2 * x) (2 * (O + p)) (13 * v + U) → Close (2 * y) (2 * (O + q)) (13 * w + U)
            → Close (2 * N) (2 * (O + (p + q))) (18 * z + 4 * U)
        last N O x y p q v w z e f g h = record {
          over = omega (arith, f.over, g.over, h.over);
          under = omega (arith, f.under, g.under, h.under);
        }
