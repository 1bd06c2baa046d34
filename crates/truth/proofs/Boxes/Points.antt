-- THE TWO POINTS AND THEIR DISTANCE, in whole numbers as in Chain: a point a + (b - a) s lies 9 u at most from the exact one in
-- each coordinate, the difference of two of them 25 u.
use Prim.Native.Nat.{◌*◌, ◌+◌, ◌-◌, ◌<◌, ℕ, ◌≤◌}
use mathlib.Core.Logic.{inl, inr, ◌⊎◌}
use mathlib.Core.Path.{◌≡◌, ap}
use native.Mathlib.Nat.{le_of_mul-le-mul_left, le_trans, mul-le-mul_left, mul-le-mul_right}
use native.Mathlib.Omega.{arith}
use Rattle.arith.specs.Whole.{apart}
use Rattle.arith.proofs.Laws.RoundingError.{Close}
use Rattle.truth.proofs.Points.Lagrange.{apart_split}
use Rattle.truth.proofs.Boxes.Beside.{legs}
use Rattle.truth.proofs.Boxes.Chain.{Small, Way}
use Rattle.truth.proofs.Boxes.Signed.{Difference, Near, near_add, near_mul, near_size, near_sub, Product, Sum, wider}

-- ---- the size of a difference
pub leg : (k M U x y e : ℕ) → Close (k * U + x) (M * U + y) e → (g : ℕ) → Close y x g → apart k M * U ≤ g + e
leg k M U x y e c g d = go k M (apart k M) (apart_split k M) c
  where
    go : (k M s : ℕ) → (M ≡ k + s) ⊎ (k ≡ M + s) → Close (k * U + x) (M * U + y) e → s * U ≤ g + e
    go k M s (inl o) c = omega (arith, ap (λ z. z * U) o, c.under, d.under)
    go k M s (inr o) c = omega (arith, ap (λ z. z * U) o, c.over, d.over)

module _ (M U u K h : ℕ) (small : Small U u K h) (u⁺ : 0 < u) where
  k⁺ : 0 < 2 * K
  k⁺ = let l = small.digits in omega arith

  many : (c x : ℕ) → c ≤ 1024 → c * x ≤ K * x
  many c x l = mul-le-mul_right x (le_trans l small.digits)

  -- ---- a point at T / U from A to B, its key kP
  pub record Point (kP A B T : ℕ) : Type 0 where
    pub near : Near M U kP (U * A + B * T) (U * M + A * T) (9 * (u * U))
    pub exact : Close (U * A + B * T) (U * M + A * T) (6 * K * (u * U))
    pub size : Close (kP * U) (M * U) (7 * K * (u * U))

  module _ (kd A B T : ℕ) (T⁺ : T ≤ U) (d : Way M U u K h small kd B A) (start : Close A M (2 * K * u)) (km kP : ℕ)
      (s : Product M U K km kd (M + T)) (a : Sum M U K kP A km) where
    way_size : Close (kd * 1) (M * 1) (5 * K * u)
    way_size = wider _ _ _ _ (let l = many 1 u (let o : 1 ≤ 1024 = omega arith in o) in omega arith)
        (near_size M U K k⁺ kd 1 B A u (4 * K * u) d.near d.exact)

    step : Near M U km (B * T) (A * T) (5 * (u * U))
    step = shape (near_mul M U K k⁺ km kd (M + T) 1 1 B A T 0 u 0 (5 * K * u) U U (3 * (u * U) + U) s d.near
        (record { over = omega arith; under = omega arith }) way_size (record { over = omega arith; under = omega arith })
        (record { over = omega arith; under = omega arith })
        (let z : 5 * K * u * U + K * (U * (1 * 1)) ≤ 2 * K * (3 * (u * U) + U) = omega arith in z))
      where
        shape : Near M (U * (1 * 1)) km (B * T + A * 0) (B * 0 + A * T) (5 * K * u * 0 + U * u + (3 * (u * U) + U))
            → Near M U km (B * T) (A * T) (5 * (u * U))
        shape x = let l = mul-le-mul_right U u⁺ in record { over = omega (arith, x.over); under = omega (arith, x.under) }

    exact_step : Close (B * T) (A * T) (4 * K * (u * U))
    exact_step = go K u U A B T (mul-le-mul_left (4 * K * u) T⁺) (mul-le-mul_right T d.exact.over)
        (mul-le-mul_right T d.exact.under)
      where
        go : (K u U A B T : ℕ) → 4 * K * u * T ≤ 4 * K * u * U → B * T ≤ (A + 4 * K * u) * T → A * T ≤ (B + 4 * K * u) * T
            → Close (B * T) (A * T) (4 * K * (u * U))
        go K u U A B T l a b = record { over = omega arith; under = omega arith }

    step_size : Close (km * U) (M * U) (5 * K * (u * U))
    step_size = wider _ _ _ _ (let l = many 5 (u * U) (let o : 5 ≤ 1024 = omega arith in o) in omega arith)
        (near_size M U K k⁺ km U _ _ (5 * (u * U)) (4 * K * (u * U)) step exact_step)

    start_size : Close (A * U) (M * U) (2 * K * (u * U))
    start_size = go K u U A M (mul-le-mul_right U start.over) (mul-le-mul_right U start.under)
      where
        go : (K u U A M : ℕ) → A * U ≤ (M + 2 * K * u) * U → M * U ≤ (A + 2 * K * u) * U → Close (A * U) (M * U) (2 * K * (u * U))
        go K u U A M a b = record { over = omega arith; under = omega arith }

    point_near : Near M U kP (U * A + B * T) (U * M + A * T) (9 * (u * U))
    point_near = wider _ _ _ _ (let z : 0 + 5 * (u * U) + 4 * (u * U) ≤ 9 * (u * U) = omega arith in z)
        (near_add M U K k⁺ kP A km U (U * A) (U * M) _ _ 0 (5 * (u * U)) (2 * K * (u * U)) (5 * K * (u * U)) (4 * (u * U)) a
        (record { over = omega arith; under = omega arith }) step start_size step_size
        (let z : 2 * K * (u * U) + 5 * K * (u * U) ≤ 2 * K * (4 * (u * U)) = omega arith in z))

    pub point : Point kP A B T
    point = record {
      near = point_near;
      exact = exact;
      size = wider _ _ _ _ (let l = many 9 (u * U) (let o : 9 ≤ 1024 = omega arith in o) in omega arith)
          (near_size M U K k⁺ kP U _ _ (9 * (u * U)) (6 * K * (u * U)) point_near exact);
    }
      where
        exact : Close (U * A + B * T) (U * M + A * T) (6 * K * (u * U))
        exact = go (U * A) (A * U) (U * M) (M * U) (B * T) (A * T) (K * (u * U)) (let z : U * A ≡ A * U = omega arith in z)
            (let z : U * M ≡ M * U = omega arith in z) start_size exact_step
          where
            go : (x x' y y' b a w : ℕ) → x ≡ x' → y ≡ y' → Close x' y' (2 * K * (u * U)) → Close b a (4 * K * (u * U))
                → Close (x + b) (y + a) (6 * K * (u * U))
            go x x' y y' b a w p q s t = record {
              over = omega (arith, s.over, t.over);
              under = omega (arith, s.under, t.under);
            }

  -- ---- the difference of two points, at T / U from A to B and at V' / U from C to D
  pub gap : (kP A B T kQ C D W k : ℕ) → Point kP A B T → Point kQ C D W → Difference M U K k kP kQ
      → Close (k * U + (A * T + U * C + D * W)) (M * U + (U * A + B * T + C * W)) (25 * (u * U))
  gap kP A B T kQ C D W k p q s = go _ _ _ _ _ _
      (near_sub M U K k⁺ k kP kQ U _ _ _ _ (9 * (u * U)) (9 * (u * U)) (7 * K * (u * U)) (7 * K * (u * U)) (7 * (u * U)) s
      p.near q.near p.size q.size
      (let z : 7 * K * (u * U) + 7 * K * (u * U) ≤ 2 * K * (7 * (u * U)) = omega arith in z))
    where
      go : (a t c w b d : ℕ) → Close (k * U + (U * M + t + (c + d))) (M * U + (a + b + (U * M + w)))
          (9 * (u * U) + 9 * (u * U) + 7 * (u * U)) → Close (k * U + (t + c + d)) (M * U + (a + b + w)) (25 * (u * U))
      go a t c w b d s = record { over = omega (arith, s.over); under = omega (arith, s.under) }

  pub gap_size : (kP A B T kQ C D W k : ℕ) → 0 < U → Point kP A B T → Point kQ C D W → Difference M U K k kP kQ
      → apart k M ≤ 13 * K * u
  gap_size kP A B T kQ C D W k U⁺ p q s = le_of_mul-le-mul_left
      (last K u U (apart k M) (leg k M U _ _ _ (gap kP A B T kQ C D W k p q s) (12 * K * (u * U))
      (both _ _ _ _ _ _ p.exact q.exact)) (many 25 (u * U) (let o : 25 ≤ 1024 = omega arith in o))) U⁺
    where
      both : (a b t c d w : ℕ) → Close (a + b) (U * M + t) (6 * K * (u * U)) → Close (c + d) (U * M + w) (6 * K * (u * U))
          → Close (a + b + w) (t + c + d) (12 * K * (u * U))
      both a b t c d w f g = record { over = omega (arith, f.over, g.under); under = omega (arith, f.under, g.over) }

      last : (K u U s : ℕ) → s * U ≤ 12 * K * (u * U) + 25 * (u * U) → 25 * (u * U) ≤ K * (u * U) → U * s ≤ U * (13 * K * u)
      last K u U s h l = omega arith

-- ---- the reported w: s and t are the legs' sizes
pub reported : (U u w s t X g : ℕ) → (w - 8 * u) * (w - 8 * u) ≤ s * s + t * t → s * U ≤ g + 25 * (u * U) → g ≤ 51 * (u * U)
    → t * U ≤ X + 25 * (u * U) → U * w ≤ X + U * (109 * u)
reported U u w s t X g h a b c = go (w - 8 * u) (legs (w - 8 * u) s t h) (let z : w ≤ w - 8 * u + 8 * u = omega arith in z)
  where
    go : (v : ℕ) → v ≤ s + t → w ≤ v + 8 * u → U * w ≤ X + U * (109 * u)
    go v l m = omega (arith, mul-le-mul_right U l, mul-le-mul_left U m)
