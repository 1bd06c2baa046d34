-- OF ALL POINTS ON A CIRCLE ABOUT THE SPINDLE the one straight above is closest, in whole numbers. By Cauchy's inequality.
use Prim.Native.Nat.{◌*◌, ◌+◌, ◌-◌, ◌<◌, zero, suc, zero-le, ℕ, ◌≤◌}
use mathlib.Core.Logic.{inl, inr, ◌⊎◌}
use mathlib.Core.Path.{◌≡◌, ap, refl}
use native.Mathlib.Nat.{le_of_eq, le_of_lt, le_of_mul-le-mul_left, le_trans, mul-le-mul, mul-le-mul_left, mul-le-mul_right}
use native.Mathlib.Nat.{mul-pos}
use native.Mathlib.Omega.{arith}
use Rattle.arith.proofs.roots.Numbers.{decide}
use Rattle.arith.specs.Whole.{apart}
use Rattle.truth.specs.Exact.{sqd}
use Rattle.arith.proofs.Laws.OperationErrors.{apart_most, apart_over, apart_under, RootClose}
use Rattle.truth.proofs.Points.Lagrange.{apart_split, same_way, sqd_is}

-- ---- signs only bring points closer
pub unsigned_closer : (M n k X : ℕ) → sqd (n * apart k M) (apart X (n * M)) ≤ sqd (n * k) X
unfolding sqd
unsigned_closer M n k X =
    let l = go k (apart k M) (apart_split k M) X (apart X (n * M)) (apart_split X (n * M)) in mul-le-mul l l
  where
    go : (k s : ℕ) → (M ≡ k + s) ⊎ (k ≡ M + s) → (X t : ℕ) → (n * M ≡ X + t) ⊎ (X ≡ n * M + t) → apart (n * s) t ≤ apart (n * k) X
    go k s e X t f = apart_most (n * s) t (apart (n * k) X) (over e f) (under e f)
      where
        over : (M ≡ k + s) ⊎ (k ≡ M + s) → (n * M ≡ X + t) ⊎ (X ≡ n * M + t) → n * s ≤ t + apart (n * k) X
        over (inl e) (inl f) = omega (arith, ap (λ z. n * z) e, apart_under (n * k) X)
        over (inl e) (inr f) = omega (arith, ap (λ z. n * z) e, apart_under (n * k) X)
        over (inr e) (inl f) = omega (arith, ap (λ z. n * z) e, apart_over (n * k) X)
        over (inr e) (inr f) = omega (arith, ap (λ z. n * z) e, apart_over (n * k) X)

        under : (M ≡ k + s) ⊎ (k ≡ M + s) → (n * M ≡ X + t) ⊎ (X ≡ n * M + t) → t ≤ n * s + apart (n * k) X
        under (inl e) (inl f) = omega (arith, ap (λ z. n * z) e, apart_over (n * k) X)
        under (inl e) (inr f) = omega (arith, ap (λ z. n * z) e, apart_under (n * k) X)
        under (inr e) (inl f) = omega (arith, ap (λ z. n * z) e, apart_over (n * k) X)
        under (inr e) (inr f) = omega (arith, ap (λ z. n * z) e, apart_under (n * k) X)

square_le : (a b : ℕ) → a * a ≤ b * b → a ≤ b
square_le a b h = elim (decide a b) [
  | inl l ↦ l
  | inr l ↦ let k : ⊥ = omega (arith, mul-le-mul l l) in absurd k
]

-- ---- F is n n s + R R less 2 n c, and c at most the root of s times R
module _ (n s c R F : ℕ) (is : F + 2 * (n * c) ≡ n * n * s + R * R) (cauchy : c * c ≤ s * (R * R)) where
  -- k is no more than the root of s
  outer : (k z : ℕ) → k * k ≤ s → n * k ≡ R + z → z * z ≤ F
  outer k z h e = elim (decide c (k * R)) [
    | inl l ↦ less (mul-le-mul_left (n * n) h) (mul-le-mul_left n l)
    | inr l ↦ more (c - k * R) (s - k * k) (let q : c ≡ k * R + (c - k * R) = omega arith in q)
        (let q : s ≡ k * k + (s - k * k) = omega arith in q) (sub_pos l)
  ]
    where
      sub_pos : k * R < c → 0 < c - k * R
      sub_pos l = omega arith

      square : z * z + 2 * (R * (n * k)) ≡ n * k * (n * k) + R * R
      square = rw e (omega arith)

      less : n * n * (k * k) ≤ n * n * s → n * c ≤ n * (k * R) → z * z ≤ F
      less a b = omega (arith, square)

      more : (v r : ℕ) → c ≡ k * R + v → s ≡ k * k + r → 0 < v → z * z ≤ F
      more v r a b p = positive R refl
        where
          narrow : 2 * (k * R * v) + v * v ≤ r * (R * R)
          narrow = go (rw (a, b) at cauchy)
            where
              go : (k * R + v) * (k * R + v) ≤ (k * k + r) * (R * R) → 2 * (k * R * v) + v * v ≤ r * (R * R)
              go h = omega arith

          positive : (t : ℕ) → R ≡ t → z * z ≤ F
          positive zero q = let x : ⊥ = omega (arith, narrow, mul-pos p p, ap (λ y. r * (R * y)) q) in absurd x
          positive (suc t) q =
              let R⁺ : 0 < R = omega arith in
              let x : 2 * (k * v) ≤ r * R = le_of_mul-le-mul_left (go1 narrow) R⁺ in
              let y : r * R ≤ r * (n * k) = mul-le-mul_left r (let w : R ≤ n * k = omega arith in w) in
              let k⁺ : 0 < k = pos k refl in
              let w : 2 * v ≤ r * n = le_of_mul-le-mul_left (go2 (le_trans x y)) k⁺ in
              last (mul-le-mul_left n w)
            where
              go1 : 2 * (k * R * v) + v * v ≤ r * (R * R) → R * (2 * (k * v)) ≤ R * (r * R)
              go1 h = omega arith

              go2 : 2 * (k * v) ≤ r * (n * k) → k * (2 * v) ≤ k * (r * n)
              go2 h = omega arith

              pos : (j : ℕ) → k ≡ j → 0 < k
              pos zero f = let x : ⊥ = omega (arith, ap (λ y. n * y) f) in absurd x
              pos (suc j) f = omega arith

              last : n * (2 * v) ≤ n * (r * n) → z * z ≤ F
              last h = omega (arith, square, ap (λ y. n * y) a, ap (λ y. n * n * y) b)

  -- k is no less
  within : (k z : ℕ) → s ≤ k * k → R ≡ n * k + z → 0 < k → z * z ≤ F
  within k z h e k⁺ = positive R refl
    where
      positive : (t : ℕ) → R ≡ t → z * z ≤ F
      positive zero q = let x : z ≡ 0 = omega arith in rw x zero-le
      positive (suc t) q =
          let R⁺ : 0 < R = omega arith in
          let l : c ≤ k * R =
          square_le c (k * R) (le_trans cauchy (le_trans (mul-le-mul_right (R * R) h) (le_of_eq (four k R)))) in
          go R⁺ (k * R - c) (k * k - s) (let w : k * R ≡ c + (k * R - c) = omega arith in w)
          (let w : k * k ≡ s + (k * k - s) = omega arith in w)
        where
          four : (k R : ℕ) → k * k * (R * R) ≡ k * R * (k * R)
          four k R = omega arith

          go : 0 < R → (v r : ℕ) → k * R ≡ c + v → k * k ≡ s + r → z * z ≤ F
          go R⁺ v r a b =
              let x : r * R ≤ 2 * (k * v) =
              le_of_mul-le-mul_left (step1 (ap (λ y. y * y) a) (ap (λ y. y * (R * R)) b) (ap (λ y. y * v) a)) R⁺ in
              let y : r * (n * k) ≤ r * R = mul-le-mul_left r (let w : n * k ≤ R = omega arith in w) in
              let w : r * n ≤ 2 * v = le_of_mul-le-mul_left (step2 (le_trans y x)) k⁺ in
              step3 (mul-le-mul_left n w)
            where
              step1 : k * R * (k * R) ≡ (c + v) * (c + v) → k * k * (R * R) ≡ (s + r) * (R * R) → k * R * v ≡ (c + v) * v
                  → R * (r * R) ≤ R * (2 * (k * v))
              step1 f g j = omega (arith, cauchy)

              step2 : r * (n * k) ≤ 2 * (k * v) → k * (r * n) ≤ k * (2 * v)
              step2 h = omega arith

              square : z * z + 2 * (R * (n * k)) ≡ n * k * (n * k) + R * R
              square = rw e (omega arith)

              step3 : n * (r * n) ≤ n * (2 * v) → z * z ≤ F
              step3 h = omega (arith, square, ap (λ y. n * y) a, ap (λ y. n * n * y) b)

-- ---- D and d are the sizes of x and y, X and Y those of a point on the circle of radius R, h is the hypot of D and d, but for u
module _ (n D d X Y R h u : ℕ) (circle : X * X + Y * Y ≡ R * R) (root : RootClose (D * D + d * d) h u) where
  abbrev s : ℕ
  s = D * D + d * d

  abbrev c : ℕ
  c = X * D + Y * d

  cauchy : c * c ≤ s * (R * R)
  cauchy = omega (arith, same_way D d X Y, ap (λ z. (D * D + d * d) * z) circle)

  -- the square of the distance along the circle's plane
  plane : sqd (n * D) X + sqd (n * d) Y + 2 * (n * c) ≡ n * n * s + R * R
  plane = omega (arith, sqd_is (n * D) X, sqd_is (n * d) Y, circle)

  -- no nearer than along the meridian, but for u
  pub plane_least : 0 < u → (apart (n * h) R - n * u) * (apart (n * h) R - n * u) ≤ sqd (n * D) X + sqd (n * d) Y
  plane_least u⁺ = elim (decide (apart (n * h) R) (n * u)) [
    | inl l ↦ let z : apart (n * h) R - n * u ≡ 0 = omega arith in rw z zero-le
    | inr l ↦ go (apart (n * h) R) (apart_split (n * h) R) l
  ]
    where
      go : (a : ℕ) → (R ≡ n * h + a) ⊎ (n * h ≡ R + a) → n * u < a → (a - n * u) * (a - n * u) ≤ sqd (n * D) X + sqd (n * d) Y
      go a (inl e) l =
          within n s c R (sqd (n * D) X + sqd (n * d) Y) plane cauchy (h + u) (a - n * u) root.most (omega arith) (omega arith)
      go a (inr e) l = outer n s c R (sqd (n * D) X + sqd (n * d) Y) plane cauchy (h - u) (a - n * u) root.least
          (step (h - u) (let q : h ≡ h - u + u = omega (arith, larger) in q))
        where
          larger : u ≤ h
          larger = elim (decide u h) [
            | inl m ↦ m
            | inr m ↦ let x : ⊥ = omega (arith, mul-le-mul_left n (le_of_lt m)) in absurd x
          ]

          step : (j : ℕ) → h ≡ j + u → n * j ≡ R + (a - n * u)
          step j q = omega (arith, ap (λ y. n * y) q)

-- ---- what is lost along one leg is lost of the whole
pub leg_lost : (W v z r t : ℕ) → W * W ≤ z * z + r * r → (r - v) * (r - v) ≤ t → (W - v) * (W - v) ≤ z * z + t
leg_lost W v z r t h k = le_trans (go (decide r v) (decide W v)) (add z k)
  where
    add : (z : ℕ) {a b : ℕ} → a ≤ b → z * z + a ≤ z * z + b
    add z l = omega arith

    go : (r ≤ v) ⊎ (v < r) → (W ≤ v) ⊎ (v < W) → (W - v) * (W - v) ≤ z * z + (r - v) * (r - v)
    go a (inl l) = let q : W - v ≡ 0 = omega arith in rw q zero-le
    go (inl m) (inr l) = low (W - v) (let q : W ≡ W - v + v = omega arith in q) (mul-le-mul m m)
      where
        low : (w : ℕ) → W ≡ w + v → r * r ≤ v * v → w * w ≤ z * z + (r - v) * (r - v)
        low w e f = step (rw e at h)
          where
            step : (w + v) * (w + v) ≤ z * z + r * r → w * w ≤ z * z + (r - v) * (r - v)
            step h = tail ((r - v) * (r - v)) (let q : w * w ≤ z * z = omega arith in q)
              where
                tail : (a : ℕ) → w * w ≤ z * z → w * w ≤ z * z + a
                tail a q = omega arith
    go (inr m) (inr l) =
        high (W - v) (r - v) (let q : W ≡ W - v + v = omega arith in q) (let q : r ≡ r - v + v = omega arith in q)
      where
        high : (w s : ℕ) → W ≡ w + v → r ≡ s + v → w * w ≤ z * z + s * s
        high w s e f = elim (decide w s) [
          | inl o ↦ let q = mul-le-mul o o in omega arith
          | inr o ↦ let q = mul-le-mul_right v (le_of_lt o) in step (rw (e, f) at h) q
        ]
          where
            step : (w + v) * (w + v) ≤ z * z + (s + v) * (s + v) → s * v ≤ w * v → w * w ≤ z * z + s * s
            step h q = omega arith
