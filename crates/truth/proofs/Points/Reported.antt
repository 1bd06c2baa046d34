-- THE REPORTED DISTANCE h, of smallest values, against the exact one: h less 64 u is at most the distance to every point of the
-- segment, and h more 24 u is at least the distance to one of them. x and y are the sizes of the legs that were rounded, X and Y
-- the exact ones.
use Prim.Native.Nat.{◌*◌, ◌+◌, ◌-◌, ◌<◌, ℕ, ◌≤◌}
use mathlib.Core.Logic.{inl, inr}
use mathlib.Core.Path.{◌≡◌, ap, refl}
use native.Mathlib.Nat.{le_of_lt, le_trans, mul-le-mul, mul-le-mul_left, mul-le-mul_right, mul-lt-mul_of_pos_left, mul-pos}
use native.Mathlib.Omega.{arith}
use Rattle.arith.proofs.roots.Numbers.{decide}
use Rattle.truth.proofs.Points.Lagrange.{sqd_is}
use Rattle.arith.proofs.Laws.OperationErrors.{RootClose}

sum_square : (X Y : ℕ) → (X + Y) * (X + Y) ≤ 2 * (X * X + Y * Y)
sum_square X Y = omega (arith, sqd_is X Y)

-- ---- no legs so short have a hypotenuse so long
module _ (r v X Y x y : ℕ) where
  legs : (e : ℕ) → x ≤ X + e * v → y ≤ Y + e * v → x * x + y * y ≤ X * X + Y * Y + (2 * e * ((X + Y) * v) + 2 * (e * e) * (v * v))
  legs e h k = let a = mul-le-mul h h in let b = mul-le-mul k k in omega arith

  too_far : X * X + Y * Y < r * r + 1458 * (v * v) → x ≤ X + 8 * v → y ≤ Y + 8 * v → (r + 56 * v) * (r + 56 * v) ≤ x * x + y * y
      → ⊥
  too_far s h k l = elim (decide (X + Y) (7 * r + 96 * v)) [
    | inl m ↦ let c : ⊥ = omega (arith, legs 8 h k, mul-le-mul_right v m) in c
    | inr m ↦ let c : ⊥ = omega (arith, sum_square X Y, mul-le-mul (le_of_lt m) (le_of_lt m)) in c
  ]

  too_far_short : X * X + Y * Y < r * r → x ≤ X + 39 * v → y ≤ Y + 39 * v → (r + 56 * v) * (r + 56 * v) ≤ x * x + y * y → ⊥
  too_far_short s h k l = elim (decide (78 * (X + Y)) (112 * r + 94 * v)) [
    | inl m ↦ let c : ⊥ = omega (arith, legs 39 h k, mul-le-mul_right v m) in c
    | inr m ↦ let c : ⊥ = omega (arith, sum_square X Y, mul-le-mul (le_of_lt m) (le_of_lt m)) in c
  ]

-- ---- in steps of n U: x, y and h of one, X and Y of U, G the square of n
module _ (U u n h x y X Y G : ℕ) (root : RootClose (x * x + y * y) h (8 * u)) (x⁺ : U * x ≤ X + 8 * (u * U))
    (y⁺ : U * y ≤ Y + 8 * (u * U)) where
  abbrev below : ℕ
  below = h - 64 * u

  -- h is 64 u more than what it is less 64 u
  long : G < n * below * (n * below) → (R : ℕ) → below ≡ R → h ≡ R + 64 * u
  long g R e = elim (decide h (64 * u)) [
    | inl l ↦
        let z : below ≡ 0 = omega arith in
        let c : ⊥ = omega (arith, ap (λ z. n * z * (n * z)) z) in
        absurd c
    | inr l ↦ omega arith
  ]

  squared : (R : ℕ) → h ≡ R + 64 * u
      → (n * U * R + 56 * (n * U * u)) * (n * U * R + 56 * (n * U * u))
      ≤ n * (U * x) * (n * (U * x)) + n * (U * y) * (n * (U * y))
  squared R e =
      let s : R + 56 * u ≤ h - 8 * u = omega arith in
      let t = le_trans (mul-le-mul s s) root.least in
      let q : n * U * R + 56 * (n * U * u) ≡ n * U * (R + 56 * u) = omega arith in
      rw q (scaled (R + 56 * u) t)
    where
      scaled : (z : ℕ) → z * z ≤ x * x + y * y
          → (n * U * z) * (n * U * z) ≤ n * (U * x) * (n * (U * x)) + n * (U * y) * (n * (U * y))
      scaled z t = omega (arith, mul-le-mul_left (n * n * (U * U)) t)

  module _ (U⁺ : 0 < U) where
    room : (R : ℕ) → G < n * R * (n * R) → U * U * G < n * U * R * (n * U * R)
    room R g = go (mul-lt-mul_of_pos_left g (mul-pos U⁺ U⁺))
      where
        go : U * U * G < U * U * (n * R * (n * R)) → U * U * G < n * U * R * (n * U * R)
        go h = omega arith

    leg : (z Z : ℕ) → U * z ≤ Z + 8 * (u * U) → n * (U * z) ≤ n * Z + 8 * (n * U * u)
    leg z Z h = go (mul-le-mul_left n h)
      where
        go : n * (U * z) ≤ n * (Z + 8 * (u * U)) → n * (U * z) ≤ n * Z + 8 * (n * U * u)
        go h = omega arith

    pub never_more : n * n * (X * X + Y * Y) ≤ U * U * G + 2 * (n * n * (27 * (U * u) * (27 * (U * u))))
        → n * below * (n * below) ≤ G
    never_more s = elim (decide (n * below * (n * below)) G) [
      | inl l ↦ l
      | inr g ↦ absurd
          (too_far (n * U * below) (n * U * u) (n * X) (n * Y) (n * (U * x)) (n * (U * y)) (sum (room below g)) (leg x X x⁺)
          (leg y Y y⁺)
          (squared below (long g below refl)))
    ]
      where
        sum : U * U * G < n * U * below * (n * U * below)
            → n * X * (n * X) + n * Y * (n * Y) < n * U * below * (n * U * below) + 1458 * (n * U * u * (n * U * u))
        sum g = go below g
          where
            go : (R : ℕ) → U * U * G < n * U * R * (n * U * R)
                → n * X * (n * X) + n * Y * (n * Y) < n * U * R * (n * U * R) + 1458 * (n * U * u * (n * U * u))
            go R g = omega arith

    -- where the segment is no longer than 31 u
    pub never_more_short : (Z W : ℕ) → G ≡ Z * Z + W * W → n * X ≤ U * Z + 31 * (n * U * u) → n * Y ≤ U * W + 31 * (n * U * u)
        → n * below * (n * below) ≤ G
    never_more_short Z W e v w = elim (decide (n * below * (n * below)) G) [
      | inl l ↦ l
      | inr g ↦ absurd (too_far_short (n * U * below) (n * U * u) (U * Z) (U * W) (n * (U * x)) (n * (U * y)) (sum (room below g))
          (let a = leg x X x⁺ in let b : n * (U * x) ≤ U * Z + 39 * (n * U * u) = omega arith in b)
          (let a = leg y Y y⁺ in let b : n * (U * y) ≤ U * W + 39 * (n * U * u) = omega arith in b)
          (squared below (long g below refl)))
    ]
      where
        sum : U * U * G < n * U * below * (n * U * below) → U * Z * (U * Z) + U * W * (U * W) < n * U * below * (n * U * below)
        sum g = go (n * U * below * (n * U * below)) g
          where
            go : (z : ℕ) → U * U * G < z → U * Z * (U * Z) + U * W * (U * W) < z
            go z g = omega (arith, ap (λ z. U * U * z) e)

-- ---- the other way
module _ (U u h x y X Y : ℕ) (root : RootClose (x * x + y * y) h (8 * u)) (x⁺ : X ≤ U * x + 8 * (u * U))
    (y⁺ : Y ≤ U * y + 8 * (u * U)) where
  pub never_less : X * X + Y * Y ≤ U * (h + 24 * u) * (U * (h + 24 * u))
  never_less = rw turn (go (U * x) (U * y) (U * h) (u * U) (scaled root.most) x⁺ y⁺)
    where
      scaled : x * x + y * y ≤ (h + 8 * u) * (h + 8 * u)
          → U * x * (U * x) + U * y * (U * y) ≤ (U * h + 8 * (u * U)) * (U * h + 8 * (u * U))
      scaled t = omega (arith, mul-le-mul_left (U * U) t)

      turn : U * (h + 24 * u) ≡ U * h + 24 * (u * U)
      turn = omega arith

      go : (a b H v : ℕ) → a * a + b * b ≤ (H + 8 * v) * (H + 8 * v) → X ≤ a + 8 * v → Y ≤ b + 8 * v
          → X * X + Y * Y ≤ (H + 24 * v) * (H + 24 * v)
      go a b H v t p q =
          let l = legs H v a b X Y 8 p q in
          let m : a + b ≤ 2 * (H + 8 * v) =
          root_le (a + b) (2 * (H + 8 * v)) (le_trans (sum_square a b) (double (H + 8 * v) t)) in
          omega (arith, mul-le-mul_right v m)
        where
          double : (z : ℕ) → a * a + b * b ≤ z * z → 2 * (a * a + b * b) ≤ 2 * z * (2 * z)
          double z t = omega arith

          root_le : (c d : ℕ) → c * c ≤ d * d → c ≤ d
          root_le c d h = elim (decide c d) [
            | inl l ↦ l
            | inr l ↦ let k : ⊥ = omega (arith, mul-le-mul l l) in absurd k
          ]
