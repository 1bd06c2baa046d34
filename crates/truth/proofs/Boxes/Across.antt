-- THE LOSS ACROSS A SIDE. Of a side parallel to an axis only the coordinate across it counts: the edge runs from A to B, the side
-- lies at Q, and the code took the place T / U of the edge, U = S + T. Whatever T is, the loss to any other place is at most |B -
-- A|; where |B - A| is larger than ε, the residual of the quotient is known to be small, and then the edge's point at T / U
-- itself lies within ε of the side's line, or T is the end that is nearest.
use Prim.Native.Nat.{◌*◌, ◌+◌, ◌<◌, ℕ, ◌≤◌}
use mathlib.Core.Logic.{inl, inr, ◌⊎◌}
use mathlib.Core.Path.{◌≡◌, ap}
use native.Mathlib.Nat.{le_of_eq, le_of_lt, le_trans, mul-le-mul_left, mul-le-mul_right}
use native.Mathlib.Omega.{arith}
use Rattle.arith.proofs.roots.Numbers.{decide}
use Rattle.arith.specs.Whole.{apart}
use Rattle.arith.proofs.Laws.RoundingError.{Close}
use Rattle.truth.proofs.Points.Lagrange.{apart_split}
use Rattle.arith.proofs.Laws.OperationErrors.{apart_most, apart_over, apart_under}

-- the place T / (S + T) is no farther across than any other of the edge, but for ε
pub record Best (ε S T A B Q : ℕ) : Type 0 where
  pub proof : (i j : ℕ) → (i + j) * apart (S * A + T * B) ((S + T) * Q)
      ≤ (S + T) * (apart (j * A + i * B) ((i + j) * Q) + (i + j) * ε)

-- ---- distances of whole numbers
pub apart_times : (n x y h : ℕ) → Close (n * x) (n * y) h → n * apart x y ≤ h
apart_times n x y h c = go x y (apart x y) (apart_split x y) c
  where
    go : (x y s : ℕ) → (y ≡ x + s) ⊎ (x ≡ y + s) → Close (n * x) (n * y) h → n * s ≤ h
    go x y s (inl e) c = omega (arith, ap (λ z. n * z) e, c.under)
    go x y s (inr e) c = omega (arith, ap (λ z. n * z) e, c.over)

pub times : (k x y h : ℕ) → Close x y h → Close (k * x) (k * y) (k * h)
times k x y h c = record {
  over = le_trans (mul-le-mul_left k c.over) (le_of_eq (sums y));
  under = le_trans (mul-le-mul_left k c.under) (le_of_eq (sums x));
}
  where
    sums : (z : ℕ) → k * (z + h) ≡ k * z + k * h
    sums z = omega arith

pub joined : (x y z g h : ℕ) → Close x y g → Close y z h → Close x z (g + h)
joined x y z g h c d = record { over = omega (arith, c.over, d.over); under = omega (arith, c.under, d.under) }

pub apart_close : (x y : ℕ) → Close x y (apart x y)
apart_close x y = record { over = apart_over x y; under = apart_under x y }

-- two points of the edge are no farther from each other than its ends
pub spread : (ε S T A B i j : ℕ) → apart A B ≤ ε
    → Close ((i + j) * (S * A + T * B)) ((S + T) * (j * A + i * B)) ((S + T) * ((i + j) * ε))
spread ε S T A B i j h = go A B (apart A B) (apart_split A B) h
  where
    go : (A B D : ℕ) → (B ≡ A + D) ⊎ (A ≡ B + D) → D ≤ ε
        → Close ((i + j) * (S * A + T * B)) ((S + T) * (j * A + i * B)) ((S + T) * ((i + j) * ε))
    go A B D (inl o) l = rw o (record {
      over = omega (arith, mul-le-mul_left (j * T) l);
      under = omega (arith, mul-le-mul_left (i * S) l);
    })
    go A B D (inr o) l = rw o (record {
      over = omega (arith, mul-le-mul_left (i * S) l);
      under = omega (arith, mul-le-mul_left (j * T) l);
    })

-- ---- whatever the place: at most the edge's own extent across
pub flat : (ε S T A B Q : ℕ) → apart A B ≤ ε → Best ε S T A B Q
flat ε S T A B Q h = record {
  proof = λ i j. apart_times (i + j) _ _ _
      (go (S * A + T * B) (apart (j * A + i * B) ((i + j) * Q)) i j
      (joined _ _ _ _ _ (spread ε S T A B i j h) (times (S + T) _ _ _ (apart_close (j * A + i * B) ((i + j) * Q)))));
}
  where
    go : (x c i j : ℕ) → Close ((i + j) * x) ((S + T) * ((i + j) * Q)) ((S + T) * ((i + j) * ε) + (S + T) * c)
        → Close ((i + j) * x) ((i + j) * ((S + T) * Q)) ((S + T) * (c + (i + j) * ε))
    go x c i j h =
        let p : (S + T) * ((i + j) * Q) ≡ (i + j) * ((S + T) * Q) = swap (S + T) (i + j) Q in
        let q : (S + T) * ((i + j) * ε) + (S + T) * c ≡ (S + T) * (c + (i + j) * ε) = sums (S + T) ((i + j) * ε) c in
        rw (← p, ← q) h
      where
        swap : (a b c : ℕ) → a * (b * c) ≡ b * (a * c)
        swap a b c = omega arith

        sums : (a b c : ℕ) → a * b + a * c ≡ a * (c + b)
        sums a b c = omega arith

-- ---- near the side's line itself
pub close_by : (ε S T A B Q : ℕ) → apart (S * A + T * B) ((S + T) * Q) ≤ (S + T) * ε → Best ε S T A B Q
close_by ε S T A B Q h = record { proof = λ i j. go (i + j) (S + T) _ (apart (j * A + i * B) ((i + j) * Q)) h }
  where
    go : (n U x c : ℕ) → x ≤ U * ε → n * x ≤ U * (c + n * ε)
    go n U x c h = omega (arith, mul-le-mul_left n h)

-- ---- or it is small beside the extent: a product that is at most ε ε has a factor that is at most ε
balance : (ε x y U : ℕ) → ε < x → x * y ≤ U * (ε * ε) → y ≤ U * ε
balance ε x y U h l = elim (decide y (U * ε)) [
  | inl k ↦ k
  | inr k ↦
      let a : x * (U * ε + 1) ≤ x * y = mul-le-mul_left x (let m : U * ε + 1 ≤ y = omega arith in m) in
      let b : ε * (U * ε) ≤ x * (U * ε) = mul-le-mul_right (U * ε) (le_of_lt h) in
      let c : ⊥ = clash x (U * ε) h (le_trans a l) b in
      absurd c
]
  where
    clash : (x z : ℕ) → ε < x → x * (z + 1) ≤ U * (ε * ε) → ε * (U * ε) ≤ x * z → ⊥
    clash x z h a b = omega arith

-- the residual of the quotient is at most ε ε
pub inner : (ε S T A B Q : ℕ) → apart A B * apart (S * A + T * B) ((S + T) * Q) ≤ (S + T) * (ε * ε) → Best ε S T A B Q
inner ε S T A B Q h = elim (decide (apart A B) ε) [
  | inl l ↦ flat ε S T A B Q l
  | inr l ↦ close_by ε S T A B Q (balance ε (apart A B) (apart (S * A + T * B) ((S + T) * Q)) (S + T) l h)
]

-- ---- the first end, and the edge leaves the side's line there, or begins near it: (Q - A) (B - A) ≤ ε ε
pub at_first : (ε S A B Q : ℕ) → Q * B + A * A ≤ Q * A + A * B + ε * ε → Best ε S 0 A B Q
at_first ε S A B Q h = elim (decide (apart A B) ε) [
  | inl l ↦ flat ε S 0 A B Q l
  | inr l ↦ record { proof = λ i j. scaled i j (core A B Q (apart A B) (apart A Q) (apart_split A B) (apart_split A Q) l h i j) }
]
  where
    small : (n c g : ℕ) → g ≤ 1 * ε → n * g ≤ c + n * ε
    small n c g h = omega (arith, mul-le-mul_left n h)

    core : (A B Q D g : ℕ) → (B ≡ A + D) ⊎ (A ≡ B + D) → (Q ≡ A + g) ⊎ (A ≡ Q + g) → ε < D → Q * B + A * A ≤ Q * A + A * B + ε * ε
        → (i j : ℕ)
        → (i + j) * g ≤ apart (j * A + i * B) ((i + j) * Q) + (i + j) * ε
    core A B Q D g (inl o) (inl p) l h i j = small (i + j) _ g (balance ε D g 1 l (near A B Q o p h))
      where
        near : (A B Q : ℕ) → B ≡ A + D → Q ≡ A + g → Q * B + A * A ≤ Q * A + A * B + ε * ε → D * g ≤ 1 * (ε * ε)
        near A B Q o p = rw (o, p) (λ h. omega arith)
    core A B Q D g (inr o) (inr p) l h i j = small (i + j) _ g (balance ε D g 1 l (near A B Q o p h))
      where
        near : (A B Q : ℕ) → A ≡ B + D → A ≡ Q + g → Q * B + A * A ≤ Q * A + A * B + ε * ε → D * g ≤ 1 * (ε * ε)
        near A B Q o p h = omega (
          arith,
          ap (λ z. z * Q) o,
          ap (λ z. z * B) p,
          ap (λ z. z * A) o,
          ap (λ z. z * D) p,
          ap (λ z. z * A) p,
        )
    core A B Q D g (inl o) (inr p) l h i j = away ((i + j) * Q) (j * A + i * B) _ (apart_over (j * A + i * B) ((i + j) * Q))
        (omega (arith, ap (λ z. i * z) o, ap (λ z. i * z) p, ap (λ z. j * z) p))
      where
        away : (y e c : ℕ) → e ≤ y + c → y + (i + j) * g ≤ e → (i + j) * g ≤ c + (i + j) * ε
        away y e c h k = omega arith
    core A B Q D g (inr o) (inl p) l h i j = away ((i + j) * Q) (j * A + i * B) _ (apart_under (j * A + i * B) ((i + j) * Q))
        (omega (arith, ap (λ z. i * z) o, ap (λ z. i * z) p, ap (λ z. j * z) p))
      where
        away : (y e c : ℕ) → y ≤ e + c → e + (i + j) * g ≤ y → (i + j) * g ≤ c + (i + j) * ε
        away y e c h k = omega arith

    scaled : (i j : ℕ) → (i + j) * apart A Q ≤ apart (j * A + i * B) ((i + j) * Q) + (i + j) * ε
        → (i + j) * apart (S * A + 0 * B) ((S + 0) * Q) ≤ (S + 0) * (apart (j * A + i * B) ((i + j) * Q) + (i + j) * ε)
    scaled i j h =
        let m : apart (S * A + 0 * B) ((S + 0) * Q)
        ≤ S * apart A Q = apart_most _ _ _ (up _ (apart_over A Q)) (down _ (apart_under A Q)) in
        go (i + j) _ _ _ m h
      where
        up : (g : ℕ) → A ≤ Q + g → S * A + 0 * B ≤ (S + 0) * Q + S * g
        up g h = omega (arith, mul-le-mul_left S h)

        down : (g : ℕ) → Q ≤ A + g → (S + 0) * Q ≤ S * A + 0 * B + S * g
        down g h = omega (arith, mul-le-mul_left S h)

        go : (n x g c : ℕ) → x ≤ S * g → n * g ≤ c → n * x ≤ (S + 0) * c
        go n x g c h k = omega (arith, mul-le-mul_left n h, mul-le-mul_left S k)

-- ---- the last end: (A - B) (Q - B) ≤ ε ε
pub at_last : (ε T A B Q : ℕ) → Q * A + B * B ≤ Q * B + B * A + ε * ε → Best ε 0 T A B Q
at_last ε T A B Q h = record { proof = λ i j. go i j ((at_first ε T B A Q h).proof j i) }
  where
    go : (i j : ℕ) → (j + i) * apart (T * B + 0 * A) ((T + 0) * Q) ≤ (T + 0) * (apart (i * B + j * A) ((j + i) * Q) + (j + i) * ε)
        → (i + j) * apart (0 * A + T * B) ((0 + T) * Q) ≤ (0 + T) * (apart (j * A + i * B) ((i + j) * Q) + (i + j) * ε)
    go i j =
        let a : 0 * A + T * B ≡ T * B + 0 * A = omega arith in
        let b : 0 + T ≡ T + 0 = omega arith in
        let c : i + j ≡ j + i = omega arith in
        let d : j * A + i * B ≡ i * B + j * A = omega arith in
        rw (a, b, c, d) (λ h. h)
