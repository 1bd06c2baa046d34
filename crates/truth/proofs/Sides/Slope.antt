-- WHERE A LINE OF SIGHT CROSSES AN EDGE, in whole numbers: what the errors of the operations make of the exact place. M is the
-- key of zero, U that of one less M, u half the last place of a number twice as large as the ends of the edge, 2 K u of which are
-- their bound. D is how far the ends are apart in radius, W how far the point and the first end, o and t what these are rounded
-- to; kd, kn, kq, kz are the keys of d = bz - az, d w, d w / t and az + d w / t.
use Prim.Native.Nat.{◌*◌, ◌+◌, ◌<◌, ℕ, ◌≤◌}
use mathlib.Core.Path.{◌≡◌, ap}
use native.Mathlib.Nat.{le_of_eq, le_of_mul-le-mul_left, le_trans, mul-le-mul_left, mul-le-mul_right}
use native.Mathlib.Omega.{arith}
use Rattle.arith.proofs.Laws.RoundingError.{Close}
use Rattle.arith.proofs.Laws.OperationErrors.{cancel}
use Rattle.truth.proofs.Points.Side.{product_close}

times : (k x y h : ℕ) → Close x y h → Close (x * k) (y * k) (h * k)
times k x y h c = record {
  over = le_trans (mul-le-mul_right k c.over) (le_of_eq (sums y));
  under = le_trans (mul-le-mul_right k c.under) (le_of_eq (sums x));
}
  where
    sums : (z : ℕ) → (z + h) * k ≡ z * k + h * k
    sums z = omega arith

module _ (M U u K D W o t kd kn : ℕ) (K⁺ : 8 ≤ K) (W⁺ : W ≤ D) (U⁺ : U ≤ u * t) (o_share : Close (2 * K * o) (2 * K * W) W)
    (t_share : Close (2 * K * t) (2 * K * D) D)
    (d_size : Close kd M (4 * K * u))
    (n_share : Close (2 * K * (kn * U + M * o)) (2 * K * (M * U + kd * o)) (o * (4 * K * u) + K * U)) where
  k⁺ : 0 < K
  k⁺ = omega arith

  kk : 0 < 2 * K
  kk = omega arith

  -- o is hardly longer than W, t hardly shorter than D
  shorter : 15 * D ≤ 16 * t
  shorter = le_of_mul-le-mul_left (step (2 * K) (let h : 16 ≤ 2 * K = omega arith in h) t_share.under) kk
    where
      step : (k : ℕ) → 16 ≤ k → k * D ≤ k * t + D → k * (15 * D) ≤ k * (16 * t)
      step k h l = omega (arith, mul-le-mul_right D h)

  longer : 16 * o ≤ 17 * W
  longer = le_of_mul-le-mul_left (step (2 * K) (let h : 16 ≤ 2 * K = omega arith in h) o_share.over) kk
    where
      step : (k : ℕ) → 16 ≤ k → k * o ≤ k * W + W → k * (16 * o) ≤ k * (17 * W)
      step k h l = omega (arith, mul-le-mul_right W h)

  pub o_most : 15 * o ≤ 17 * t
  o_most = go shorter longer
    where
      go : 15 * D ≤ 16 * t → 16 * o ≤ 17 * W → 15 * o ≤ 17 * t
      go h k = omega arith

  n_close : Close (2 * (kn * U + M * o)) (2 * (M * U + kd * o)) (4 * (u * o) + U)
  n_close = cancel K _ _ _ k⁺ (record { over = omega (arith, n_share.over); under = omega (arith, n_share.under) })

  d_o : Close (kd * o) (M * o) (4 * K * u * o)
  d_o = times o kd M (4 * K * u) d_size

  pub n_size : Close (kn * U) (M * U) (5 * K * u * t)
  n_size = wide (go (kn * U) (M * U) (M * o) (kd * o) (u * o) (u * t) (K * (u * o)) (K * (u * t)) U⁺ n_close
      (record { over = omega (arith, d_o.over); under = omega (arith, d_o.under) })
      (let h = mul-le-mul_left u o_most in omega arith) (let h = mul-le-mul_left (K * u) o_most in omega arith)
      (mul-le-mul_right (u * t) K⁺))
    where
      go : (n m a b x y X Y : ℕ) → U ≤ y → Close (2 * (n + a)) (2 * (m + b)) (4 * x + U) → Close b a (4 * X) → 15 * x ≤ 17 * y
          → 15 * X ≤ 17 * Y → 8 * y ≤ Y
          → Close n m (5 * Y)
      go n m a b x y X Y s c d h k l =
          record { over = omega (arith, c.over, d.over); under = omega (arith, c.under, d.under) }

      wide : Close (kn * U) (M * U) (5 * (K * (u * t))) → Close (kn * U) (M * U) (5 * K * u * t)
      wide c = record { over = omega (arith, c.over); under = omega (arith, c.under) }

  module _ (kq : ℕ) (t⁺ : 0 < t) (q_share : Close (2 * K * (kq * t + M * U)) (2 * K * (M * t + kn * U)) (5 * K * u * t)) where
    q_close : Close (2 * (kq * t + M * U)) (2 * (M * t + kn * U)) (5 * (u * t))
    q_close = cancel K _ _ _ k⁺ (record { over = omega (arith, q_share.over); under = omega (arith, q_share.under) })

    pub q_size : Close kq M (6 * K * u)
    q_size = cancel t _ _ _ t⁺
        (wide (go (kq * t) (M * t) (kn * U) (M * U) (u * t) (K * (u * t)) (mul-le-mul_right (u * t) K⁺) q_close
        (record { over = omega (arith, n_size.over); under = omega (arith, n_size.under) })))
      where
        go : (q m n o y Y : ℕ) → 8 * y ≤ Y → Close (2 * (q + o)) (2 * (m + n)) (5 * y) → Close n o (5 * Y) → Close q m (6 * Y)
        go q m n o y Y l c d = record { over = omega (arith, c.over, d.over); under = omega (arith, c.under, d.under) }

        wide : Close (kq * t) (M * t) (6 * (K * (u * t))) → Close (t * kq) (t * M) (t * (6 * K * u))
        wide c = record { over = omega (arith, c.over); under = omega (arith, c.under) }

    -- the quotient is as the rounded differences have it
    q_near : Close (2 * (kq * t + M * o)) (2 * (M * t + kd * o)) (11 * (u * t))
    q_near = go (kq * t) (M * t) (kn * U) (M * U) (M * o) (kd * o) (u * t) (u * o) U⁺
        (let h = mul-le-mul_left u o_most in omega arith) q_close n_close
      where
        go : (q m n p a b y x : ℕ) → U ≤ y → 15 * x ≤ 17 * y → Close (2 * (q + p)) (2 * (m + n)) (5 * y)
            → Close (2 * (n + a)) (2 * (p + b)) (4 * x + U)
            → Close (2 * (q + a)) (2 * (m + b)) (11 * y)
        go q m n p a b y x l h c d = record { over = omega (arith, c.over, d.over); under = omega (arith, c.under, d.under) }

    -- and these are nearly as the exact ones
    ratio : Close (K * (o * D)) (K * (W * t)) (W * D)
    ratio =
        let a = times D (2 * K * o) (2 * K * W) W o_share in
        let b = times W (2 * K * t) (2 * K * D) D t_share in
        record { over = omega (arith, a.over, b.under); under = omega (arith, a.under, b.over) }

    turned : Close (kd * (o * D) + M * (W * t)) (kd * (W * t) + M * (o * D)) (4 * (u * (W * D)))
    turned = cancel K _ _ _ k⁺ (go (product_close K kd M (o * D) (W * t) (4 * K * u) (W * D) d_size ratio))
      where
        go : Close (K * (kd * (o * D) + M * (W * t))) (K * (kd * (W * t) + M * (o * D))) (4 * K * u * (W * D))
            → Close (K * (kd * (o * D) + M * (W * t))) (K * (kd * (W * t) + M * (o * D))) (K * (4 * (u * (W * D))))
        go c = record { over = omega (arith, c.over); under = omega (arith, c.under) }

    pub q_true : Close (kq * D + M * W) (M * D + kd * W) (10 * (u * D))
    q_true = cancel t _ _ _ t⁺
        (wide (go (kq * t * D) (M * t * D) (M * (o * D)) (kd * (o * D)) (M * (W * t)) (kd * (W * t)) (u * t * D)
        (u * (W * D)) small
        (record { over = omega (arith, far.over); under = omega (arith, far.under) }) turned))
      where
        far : Close (2 * (kq * t + M * o) * D) (2 * (M * t + kd * o) * D) (11 * (u * t) * D)
        far = times D (2 * (kq * t + M * o)) (2 * (M * t + kd * o)) (11 * (u * t)) q_near

        small : 15 * (u * (W * D)) ≤ 16 * (u * t * D)
        small = le_trans (mul-le-mul_left 15 (mul-le-mul_left u (mul-le-mul_right D W⁺))) (step (mul-le-mul_left (u * D) shorter))
          where
            step : u * D * (15 * D) ≤ u * D * (16 * t) → 15 * (u * (D * D)) ≤ 16 * (u * t * D)
            step h = omega arith

        go : (a c b d f g v x : ℕ) → 15 * x ≤ 16 * v → Close (2 * (a + b)) (2 * (c + d)) (11 * v) → Close (d + f) (g + b) (4 * x)
            → Close (a + f) (c + g) (10 * v)
        go a c b d f g v x l h k = record { over = omega (arith, h.over, k.over); under = omega (arith, h.under, k.under) }

        wide : Close (kq * t * D + M * (W * t)) (M * t * D + kd * (W * t)) (10 * (u * t * D))
            → Close (t * (kq * D + M * W)) (t * (M * D + kd * W)) (t * (10 * (u * D)))
        wide c = record { over = omega (arith, c.over); under = omega (arith, c.under) }

    -- the place of the crossing
    pub place_true : (j az bz kz : ℕ) → D ≡ j + W → Close (kd + az) (M + bz) u → Close (kz + M) (az + kq) (2 * u)
        → Close (kz * D) (j * az + W * bz) (13 * (u * D))
    place_true j az bz kz e d z =
        let c = times W (kd + az) (M + bz) u d in
        let b = times D (kz + M) (az + kq) (2 * u) z in
        go (kz * D) (M * D) (az * D) (kq * D) (M * W) (kd * W) (az * W) (bz * W) (u * D) (u * W) (j * az) (mul-le-mul_left u W⁺)
        (omega (arith, ap (λ x. az * x) e)) q_true
        (record { over = omega (arith, c.over); under = omega (arith, c.under) })
        (record { over = omega (arith, b.over); under = omega (arith, b.under) }) (omega arith)
      where
        go : (z m a q n k l h v x y : ℕ) → x ≤ v → a ≡ y + l → Close (q + n) (m + k) (10 * v) → Close (k + l) (n + h) x
            → Close (z + m) (a + q) (2 * v)
            → h ≡ W * bz → Close z (y + W * bz) (13 * v)
        go z m a q n k l h v x y p e c d b i =
            record { over = omega (arith, c.over, d.over, b.over); under = omega (arith, c.under, d.under, b.under) }
