-- ONE SIDE OF A BOX, in whole numbers. Across it the edge runs from A to B and the side lies at Q; along it the edge runs from a
-- to b and the side from one corner on. The code took the place T / U of the edge, U = S + T, and reported w: either the distance
-- across at that place, or, where that place lies beyond a corner, the distance from that corner to the edge. Either way w
-- exceeds the exact distance from no point of the edge to a point of the side.
use Prim.Native.Nat.{◌*◌, ◌+◌, ◌-◌, ◌<◌, ℕ, ◌≤◌}
use mathlib.Core.Logic.{inl, inr, ◌⊎◌}
use mathlib.Core.Path.{◌≡◌, ap, refl, sym, ◌∙◌}
use native.Mathlib.Nat.{le_of_eq, le_of_lt, le_of_mul-le-mul_left, le_trans, mul-le-mul, mul-le-mul_left}
use native.Mathlib.Nat.{mul-pos}
use native.Mathlib.Omega.{arith}
use Rattle.arith.proofs.roots.Numbers.{decide}
use Rattle.arith.specs.Whole.{apart}
use Rattle.truth.specs.Exact.{sqd}
use Rattle.arith.proofs.Laws.RoundingError.{Close}
use Rattle.truth.proofs.Points.Foot.{sqd_farther, sqd_farther_down}
use Rattle.truth.proofs.Points.Lagrange.{sqd_comm, sqd_scale}
use Rattle.arith.proofs.Laws.OperationErrors.{apart_most, apart_over, apart_under}
use Rattle.truth.proofs.Boxes.Across.{Best}

-- ---- squares
pub root_le : (x y : ℕ) → x * x ≤ y * y → x ≤ y
root_le x y h = elim (decide x y) [ inl l ↦ l | inr l ↦ absurd (clash (mul-le-mul (more l) (more l))) ]
  where
    more : y < x → y + 1 ≤ x
    more l = omega arith

    clash : (y + 1) * (y + 1) ≤ x * x → ⊥
    clash k = omega arith

-- the sum of two legs is at least the root of their squares
pub legs : (x y z : ℕ) → x * x ≤ y * y + z * z → x ≤ y + z
legs x y z h = root_le x (y + z) (le_trans h (go y z))
  where
    go : (y z : ℕ) → y * y + z * z ≤ (y + z) * (y + z)
    go y z = omega arith

pub same_zero : (x : ℕ) → sqd x x ≡ 0
unfolding sqd apart
same_zero x = ap (λ z. z * z) (let h : x - x + (x - x) ≡ 0 = omega arith in h)

-- w is no more than the distance across, to any point of the edge
pub record Facing (η w A B Q : ℕ) : Type 0 where
  pub proof : (i j : ℕ) → (i + j) * (w - η) ≤ apart (j * A + i * B) ((i + j) * Q)

module _ (ε δ w S T A B Q : ℕ) (best : Best ε S T A B Q) (some : 0 < S + T) where
  -- ---- the distance across at T / U
  pub facing : (S + T) * w ≤ apart (S * A + T * B) ((S + T) * Q) + (S + T) * δ → Facing (ε + δ) w A B Q
  facing h = record { proof = λ i j. go (i + j) (S + T) _ _ some h (best.proof i j) }
    where
      go : (n U X c : ℕ) → 0 < U → U * w ≤ X + U * δ → n * X ≤ U * (c + n * ε) → n * (w - (ε + δ)) ≤ c
      go n U X c p h k = last (w - (ε + δ)) (le_of_mul-le-mul_left (step (mul-le-mul_left n h)) p) (elim (decide (ε + δ) w) [
        | inl l ↦ inl (let e : w ≡ w - (ε + δ) + (ε + δ) = omega arith in e)
        | inr l ↦ inr (let e : w - (ε + δ) ≡ 0 = omega arith in e)
      ])
        where
          step : n * (U * w) ≤ n * (X + U * δ) → U * (n * w) ≤ U * (c + n * ε + n * δ)
          step h = omega arith

          last : (v : ℕ) → n * w ≤ c + n * ε + n * δ → (w ≡ v + (ε + δ)) ⊎ (v ≡ 0) → n * v ≤ c
          last v h (inl e) = omega (arith, ap (λ z. n * z) e)
          last v h (inr e) = rw e (omega arith)

-- ---- beyond a corner, at q along the side: w is the distance from the corner to the edge
-- w exceeds the distance from the corner to no point of the edge by more than δ
pub record FromCorner (δ w A B Q a b q : ℕ) : Type 0 where
  pub proof : (i j : ℕ) → (i + j) * (w - δ) * ((i + j) * (w - δ))
      ≤ sqd ((i + j) * Q) (j * A + i * B) + sqd ((i + j) * q) (j * a + i * b)

module _ (ε δ w S T A B Q : ℕ) (best : Best ε S T A B Q) (some : 0 < S + T) (a b q : ℕ)
    (corner : FromCorner δ w A B Q a b q) where
  -- the edge's point at i / n, and that at T / U, on the two sides of the corner: β and α are how far. Between them is one just
  -- across from the corner
  module _ (i j α β : ℕ) (β⁺ : 0 < β) (meet : (β * S + α * j) * a + (β * T + α * i) * b
      ≡ (β * T + α * i + (β * S + α * j)) * q) where
    abbrev I : ℕ
    I = β * T + α * i

    abbrev J : ℕ
    J = β * S + α * j

    abbrev X : ℕ
    X = apart (S * A + T * B) ((S + T) * Q)

    abbrev c : ℕ
    c = apart (j * A + i * B) ((i + j) * Q)

    across : sqd ((I + J) * Q) (J * A + I * B) ≤ (β * X + α * c) * (β * X + α * c)
    unfolding sqd
    across =
        let l = apart_most ((I + J) * Q) (J * A + I * B) (β * X + α * c)
        (over _ _ (apart_under (S * A + T * B) ((S + T) * Q)) (apart_under (j * A + i * B) ((i + j) * Q)))
        (under _ _ (apart_over (S * A + T * B) ((S + T) * Q)) (apart_over (j * A + i * B) ((i + j) * Q))) in
        mul-le-mul l l
      where
        over : (x y : ℕ) → (S + T) * Q ≤ S * A + T * B + x → (i + j) * Q ≤ j * A + i * B + y
            → (I + J) * Q ≤ J * A + I * B + (β * x + α * y)
        over x y h k = omega (arith, mul-le-mul_left β h, mul-le-mul_left α k)

        under : (x y : ℕ) → S * A + T * B ≤ (S + T) * Q + x → j * A + i * B ≤ (i + j) * Q + y
            → J * A + I * B ≤ (I + J) * Q + (β * x + α * y)
        under x y h k = omega (arith, mul-le-mul_left β h, mul-le-mul_left α k)

    reach : (I + J) * (w - δ) ≤ β * X + α * c
    reach = root_le _ _ (le_trans (corner.proof I J)
        (le_trans (le_of_eq (none _ (ap (λ z. sqd ((I + J) * q) z) meet ∙ same_zero ((I + J) * q)))) across))
      where
        none : (x : ℕ) {y : ℕ} → y ≡ 0 → x + y ≡ x
        none x e = rw e (let h : x + 0 ≡ x = omega arith in h)

    pub between_them : (i + j) * (w - δ) ≤ c + (i + j) * ε
    between_them = le_of_mul-le-mul_left (go (i + j) (S + T) (w - δ) (I + J) X c
        (let h : β * T + α * i + (β * S + α * j) ≡ β * (S + T) + α * (i + j) = omega arith in h) reach (best.proof i j))
        (positive (S + T) (i + j) some)
      where
        go : (n U v N X c : ℕ) → N ≡ β * U + α * n → N * v ≤ β * X + α * c → n * X ≤ U * (c + n * ε)
            → N * (n * v) ≤ N * (c + n * ε)
        go n U v N X c e h k = omega (arith, mul-le-mul_left n h, mul-le-mul_left β k, ap (λ z. z * c) e, ap (λ z. z * (n * ε)) e)

        positive : (U n : ℕ) → 0 < U → 0 < β * T + α * i + (β * S + α * j)
        positive U n h = let p = mul-pos β⁺ some in omega arith

-- ---- from the two, every point of the side
-- n n m m times the square of the distance from the edge's point at i / n, n = i + j, to the point of the side at x / m
abbrev pub beside² : ℕ → ℕ → ℕ → ℕ → ℕ → ℕ → ℕ → ℕ → ℕ → ℕ
beside² A B Q a b i j m x = sqd (m * (j * A + i * B)) ((i + j) * (m * Q)) + sqd (m * (j * a + i * b)) ((i + j) * x)

less_of : (w η θ : ℕ) → η ≤ θ → w - θ ≤ w - η
less_of w η θ h = omega arith

by_across : (n m v E Q z : ℕ) → n * v ≤ apart E (n * Q) → n * m * v * (n * m * v) ≤ sqd (m * E) (n * (m * Q)) + z
by_across n m v E Q z h =
    le_trans (le_of_eq (turn n m v)) (le_trans (mul-le-mul_left (m * m) (mul-le-mul h h))
    (le_trans (le_of_eq (ap (λ y. m * m * y) (square E (n * Q)) ∙ sym (sqd_scale m E (n * Q))
    ∙ ap (λ y. sqd (m * E) y) (swap m n Q))) (more _ z)))
  where
    square : (x y : ℕ) → apart x y * apart x y ≡ sqd x y
    square x y = unfold sqd in refl

    turn : (n m v : ℕ) → n * m * v * (n * m * v) ≡ m * m * (n * v * (n * v))
    turn n m v = omega arith

    swap : (m n Q : ℕ) → m * (n * Q) ≡ n * (m * Q)
    swap m n Q = omega arith

    more : (x z : ℕ) → x ≤ x + z
    more x z = omega arith

pub by_corner : (n m v E Q e q x : ℕ) → n * v * (n * v) ≤ sqd (n * Q) E + sqd (n * q) e
    → sqd (m * e) (n * (m * q)) ≤ sqd (m * e) (n * x)
    → n * m * v * (n * m * v) ≤ sqd (m * E) (n * (m * Q)) + sqd (m * e) (n * x)
by_corner n m v E Q e q x h k =
    le_trans (le_of_eq (turn n m v)) (le_trans (mul-le-mul_left (m * m) h)
    (le_trans (le_of_eq (sums (m * m) (sqd (n * Q) E) (sqd (n * q) e)))
    (le_trans (le_of_eq (scaled E Q (sqd (m * e) (n * (m * q))) (scale e q))) (more (sqd (m * E) (n * (m * Q))) k))))
  where
    turn : (n m v : ℕ) → n * m * v * (n * m * v) ≡ m * m * (n * v * (n * v))
    turn n m v = omega arith

    sums : (k x y : ℕ) → k * (x + y) ≡ k * x + k * y
    sums k x y = omega arith

    swap : (m n Q : ℕ) → m * (n * Q) ≡ n * (m * Q)
    swap m n Q = omega arith

    scale : (E Q : ℕ) → m * m * sqd (n * Q) E ≡ sqd (m * E) (n * (m * Q))
    scale E Q = sym (sqd_scale m (n * Q) E) ∙ sqd_comm (m * (n * Q)) (m * E) ∙ ap (λ y. sqd (m * E) y) (swap m n Q)

    scaled : (E Q : ℕ) (z : ℕ) {y : ℕ} → y ≡ z → m * m * sqd (n * Q) E + y ≡ sqd (m * E) (n * (m * Q)) + z
    scaled E Q z p = rw (p, scale E Q)

    more : (x : ℕ) {y z : ℕ} → y ≤ z → x + y ≤ x + z
    more x h = omega arith

module _ (η w A B Q : ℕ) (F : Facing η w A B Q) where
  pub clear_facing : (a b i j m x : ℕ) → (i + j) * m * (w - η) * ((i + j) * m * (w - η)) ≤ beside² A B Q a b i j m x
  clear_facing a b i j m x = by_across (i + j) m (w - η) (j * A + i * B) Q _ (F.proof i j)

module _ (ε δ γ w S T A B Q : ℕ) (best : Best ε S T A B Q) (some : 0 < S + T) (a b q : ℕ)
    (corner : FromCorner δ w A B Q a b q) where
  abbrev η : ℕ
  η = ε + (δ + γ)

  -- the place T / U lies γ off the corner at most, and on the wrong side of it
  near : Close ((S + T) * q) (S * a + T * b) ((S + T) * γ) → Facing η w A B Q
  near h = facing ε (δ + γ) w S T A B Q best some (go (S + T) (w - δ) (apart (S * A + T * B) ((S + T) * Q)) γ (sizes w δ)
      (legs _ _ _ (le_trans (square (corner.proof T S)) (both (apart (S * A + T * B) ((S + T) * Q)) (mul-le-mul (l) (l))))))
    where
      l : apart ((S + T) * q) (S * a + T * b) ≤ (S + T) * γ
      l = apart_most _ _ _ h.over h.under

      sizes : (w δ : ℕ) → w ≤ w - δ + δ
      sizes w δ = omega arith

      square : (T + S) * (w - δ) * ((T + S) * (w - δ)) ≤ sqd ((T + S) * Q) (S * A + T * B) + sqd ((T + S) * q) (S * a + T * b)
          → (S + T) * (w - δ) * ((S + T) * (w - δ))
          ≤ apart (S * A + T * B) ((S + T) * Q) * apart (S * A + T * B) ((S + T) * Q) + apart ((S + T) * q)
          (S * a + T * b) * apart ((S + T) * q) (S * a + T * b)
      square =
          let e : T + S ≡ S + T = omega arith in
          let f : sqd ((S + T) * Q) (S * A + T * B) ≡ apart (S * A + T * B) ((S + T) * Q) * apart (S * A + T * B) ((S + T) * Q) =
          sqd_comm _ _ ∙ (unfold sqd in refl) in
          let g : sqd ((S + T) * q) (S * a + T * b) ≡ apart ((S + T) * q) (S * a + T * b) * apart ((S + T) * q) (S * a + T * b) =
          unfold sqd in refl in
          rw (e, f, g) (λ h. h)

      both : (X : ℕ) {y z : ℕ} → y ≤ z → X * X + y ≤ X * X + z
      both X h = omega arith

      go : (U v X γ : ℕ) → w ≤ v + δ → U * v ≤ X + U * γ → U * w ≤ X + U * (δ + γ)
      go U v X γ e h = omega (arith, mul-le-mul_left U e)

  past : (i j : ℕ) → (i + j) * (w - δ) ≤ apart (j * A + i * B) ((i + j) * Q) + (i + j) * ε
      → (i + j) * (w - η) ≤ apart (j * A + i * B) ((i + j) * Q)
  past i j h = go (i + j) (w - δ) (w - η) _ h (room w ε δ γ)
    where
      room : (w ε δ γ : ℕ) → (w - (ε + (δ + γ)) ≡ 0) ⊎ (w - (ε + (δ + γ)) + ε ≤ w - δ)
      room w ε δ γ = elim (decide (ε + (δ + γ)) w) [
        | inl l ↦ inr (let e : w - (ε + (δ + γ)) + ε ≤ w - δ = omega arith in e)
        | inr l ↦ inl (let e : w - (ε + (δ + γ)) ≡ 0 = omega arith in e)
      ]

      go : (n v u c : ℕ) → n * v ≤ c + n * ε → (u ≡ 0) ⊎ (u + ε ≤ v) → n * u ≤ c
      go n v u c h (inl e) = rw e (omega arith)
      go n v u c h (inr e) = omega (arith, mul-le-mul_left n e)

  narrower : w - η ≤ w - δ
  narrower = less_of w δ η (let h : δ ≤ ε + (δ + γ) = omega arith in h)

  corner_less : (i j : ℕ) → (i + j) * (w - η) * ((i + j) * (w - η))
      ≤ sqd ((i + j) * Q) (j * A + i * B) + sqd ((i + j) * q) (j * a + i * b)
  corner_less i j = let l = mul-le-mul_left (i + j) narrower in le_trans (mul-le-mul l l) (corner.proof i j)

  -- ---- the side runs up from the corner, and the place lies before it
  pub clear_above : S * a + T * b ≤ (S + T) * (q + γ) → (i j m x : ℕ) → m * q ≤ x
      → (i + j) * m * (w - η) * ((i + j) * m * (w - η)) ≤ beside² A B Q a b i j m x
  clear_above h i j m x o = elim (decide (j * a + i * b) ((i + j) * q)) [
    | inl l ↦ by_corner (i + j) m (w - η) (j * A + i * B) Q (j * a + i * b) q x (corner_less i j)
        (sqd_farther (m * (j * a + i * b)) ((i + j) * (m * q)) ((i + j) * x)
        (le_trans (mul-le-mul_left m l) (le_of_eq (swap m (i + j) q))) (mul-le-mul_left (i + j) o))
    | inr l ↦ by_across (i + j) m (w - η) (j * A + i * B) Q _ (elim (decide (S * a + T * b) ((S + T) * q)) [
      | inl k ↦ past i j (between_them ε δ w S T A B Q best some a b q corner i j ((S + T) * q - (S * a + T * b))
          (j * a + i * b - (i + j) * q) (positive _ _ l)
          (meet (j * a + i * b) ((i + j) * q) (S * a + T * b) ((S + T) * q) (le_of_lt l) k refl refl refl refl))
      | inr k ↦ (near (record { over = omega (arith, k); under = omega arith })).proof i j
    ])
  ]
    where
      swap : (m n q : ℕ) → m * (n * q) ≡ n * (m * q)
      swap m n q = omega arith

      positive : (x y : ℕ) → x < y → 0 < y - x
      positive x y h = omega arith

      meet : (e n s u : ℕ) → n ≤ e → s ≤ u → e ≡ j * a + i * b → n ≡ (i + j) * q → s ≡ S * a + T * b → u ≡ (S + T) * q
          → ((e - n) * S + (u - s) * j) * a + ((e - n) * T + (u - s) * i) * b
          ≡ ((e - n) * T + (u - s) * i + ((e - n) * S + (u - s) * j)) * q
      meet e n s u h k p r t v = go (e - n) (u - s) (let z : e ≡ n + (e - n) = omega arith in z)
          (let z : u ≡ s + (u - s) = omega arith in z)
        where
          go : (β α : ℕ) → e ≡ n + β → u ≡ s + α → (β * S + α * j) * a + (β * T + α * i) * b
              ≡ (β * T + α * i + (β * S + α * j)) * q
          go β α f g = omega (
            arith,
            ap (λ z. β * z) g,
            ap (λ z. α * z) f,
            ap (λ z. α * z) p,
            ap (λ z. α * z) r,
            ap (λ z. β * z)
                t,
            ap (λ z. β * z) v,
          )

  -- ---- the side runs down to the corner's other side, and the place lies after it
  pub clear_below : (S + T) * q ≤ S * a + T * b + (S + T) * γ → (i j m x : ℕ) → x ≤ m * q
      → (i + j) * m * (w - η) * ((i + j) * m * (w - η)) ≤ beside² A B Q a b i j m x
  clear_below h i j m x o = elim (decide ((i + j) * q) (j * a + i * b)) [
    | inl l ↦ by_corner (i + j) m (w - η) (j * A + i * B) Q (j * a + i * b) q x (corner_less i j)
        (sqd_farther_down (m * (j * a + i * b)) ((i + j) * (m * q)) ((i + j) * x)
        (le_trans (le_of_eq (swap (i + j) m q)) (mul-le-mul_left m l)) (mul-le-mul_left (i + j) o))
    | inr l ↦ by_across (i + j) m (w - η) (j * A + i * B) Q _ (elim (decide ((S + T) * q) (S * a + T * b)) [
      | inl k ↦ past i j (between_them ε δ w S T A B Q best some a b q corner i j (S * a + T * b - (S + T) * q)
          ((i + j) * q - (j * a + i * b)) (positive _ _ l)
          (meet (j * a + i * b) ((i + j) * q) (S * a + T * b) ((S + T) * q) (le_of_lt l) k refl refl refl refl))
      | inr k ↦ (near (record { over = omega arith; under = omega (arith, k) })).proof i j
    ])
  ]
    where
      swap : (m n q : ℕ) → m * (n * q) ≡ n * (m * q)
      swap m n q = omega arith

      positive : (x y : ℕ) → x < y → 0 < y - x
      positive x y h = omega arith

      meet : (e n s u : ℕ) → e ≤ n → u ≤ s → e ≡ j * a + i * b → n ≡ (i + j) * q → s ≡ S * a + T * b → u ≡ (S + T) * q
          → ((n - e) * S + (s - u) * j) * a + ((n - e) * T + (s - u) * i) * b
          ≡ ((n - e) * T + (s - u) * i + ((n - e) * S + (s - u) * j)) * q
      meet e n s u h k p r t v = go (n - e) (s - u) (let z : n ≡ e + (n - e) = omega arith in z)
          (let z : s ≡ u + (s - u) = omega arith in z)
        where
          go : (β α : ℕ) → n ≡ e + β → s ≡ u + α → (β * S + α * j) * a + (β * T + α * i) * b
              ≡ (β * T + α * i + (β * S + α * j)) * q
          go β α f g = omega (
            arith,
            ap (λ z. β * z) g,
            ap (λ z. α * z) f,
            ap (λ z. α * z) p,
            ap (λ z. α * z) r,
            ap (λ z. β * z)
                t,
            ap (λ z. β * z) v,
          )
