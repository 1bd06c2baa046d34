-- A POINT MOVED comes nearer by no more than it is moved: the triangle inequality in whole numbers, by Cauchy's inequality; and
-- how far the points of an axis lie from its middle.
use Prim.Native.Nat.{◌*◌, ◌+◌, ◌-◌, ◌<◌, ℕ, ◌≤◌, zero-le}
use mathlib.Core.Logic.{inl, inr, ◌⊎◌}
use mathlib.Core.Path.{◌≡◌, sym, ◌∙◌}
use native.Mathlib.Nat.{le_of_eq, le_trans, mul-le-mul, mul-le-mul_left, mul-le-mul_right}
use native.Mathlib.Omega.{arith}
use Rattle.arith.proofs.roots.Numbers.{decide}
use Rattle.arith.specs.Whole.{apart}
use Rattle.truth.specs.Exact.{sqd}
use Rattle.arith.proofs.Laws.RoundingError.{Close}
use Rattle.arith.proofs.Laws.OperationErrors.{apart_most, apart_over, apart_under}
use Rattle.truth.proofs.Points.Lagrange.{apart_split, same_way, sqd_at, sqd_shift}
use Rattle.truth.proofs.Walk.Squares.{root_le}

cauchy : (α β η ζ : ℕ) → (η * α + ζ * β) * (η * α + ζ * β) ≤ (α * α + β * β) * (η * η + ζ * ζ)
cauchy α β η ζ = go _ _ _ (same_way α β η ζ)
  where
    go : (x y z : ℕ) → x ≡ y + z → z ≤ x
    go x y z e = omega arith

-- two legs grow by η and ζ, which is no more than B in all
pub triangle : (W B E α β η ζ : ℕ) → W * W ≤ E + ((α + η) * (α + η) + (β + ζ) * (β + ζ)) → η * η + ζ * ζ ≤ B * B
    → (W - B) * (W - B) ≤ E + (α * α + β * β)
triangle W B E α β η ζ h k = elim (decide W B) [
  | inl l ↦ let q : W - B ≡ 0 = omega arith in rw q zero-le
  | inr l ↦ over (W - B) (let q : W ≡ W - B + B = omega arith in q)
]
  where
    over : (w : ℕ) → W ≡ w + B → w * w ≤ E + (α * α + β * β)
    over w e = elim (decide (w * w) (E + (α * α + β * β))) [ inl m ↦ m | inr m ↦ absurd (no m (rw e at h)) ]
      where
        no : E + (α * α + β * β) < w * w → (w + B) * (w + B) ≤ E + ((α + η) * (α + η) + (β + ζ) * (β + ζ)) → ⊥
        no m h =
            let a : w * B + 1 ≤ η * α + ζ * β = omega arith in
            let s : α * α + β * β ≤ w * w = omega arith in
            last (w * B)
            (le_trans (mul-le-mul a a) (le_trans (cauchy α β η ζ) (le_trans (mul-le-mul s k) (le_of_eq (product w B)))))
          where
            product : (w b : ℕ) → w * w * (b * b) ≡ w * b * (w * b)
            product w b = omega arith

            last : (p : ℕ) → (p + 1) * (p + 1) ≤ p * p → ⊥
            last p h = omega arith

-- ---- one coordinate of an axis from a to b, its middle at c but for ν / 2: n times the way from the point at i / n to it
twice_apart : (x y h : ℕ) → 2 * x ≤ 2 * y + h → 2 * y ≤ 2 * x + h → 2 * apart x y ≤ h
twice_apart x y h k l = go (apart x y) (apart_split x y)
  where
    go : (d : ℕ) → (y ≡ x + d) ⊎ (x ≡ y + d) → 2 * d ≤ h
    go d (inl e) = omega arith
    go d (inr e) = omega arith

half_way : (a d c n x i ν : ℕ) → x ≡ n * a + i * d → i ≤ n → Close (2 * c) (2 * a + d) ν → 2 * apart x (n * c) ≤ n * (d + ν)
half_way a d c n x i ν e l k =
    let o = mul-le-mul_left n k.over in
    let u = mul-le-mul_left n k.under in
    let w = mul-le-mul_right d l in
    twice_apart x (n * c) (n * (d + ν)) (omega arith) (omega arith)

pub off_middle : (a b c i j n ν : ℕ) → n ≡ i + j → Close (2 * c) (a + b) ν
    → 2 * apart (j * a + i * b) (n * c) ≤ n * (apart a b + ν)
off_middle a b c i j n ν p k = go (apart a b) (apart_split a b)
  where
    go : (d : ℕ) → (b ≡ a + d) ⊎ (a ≡ b + d) → 2 * apart (j * a + i * b) (n * c) ≤ n * (d + ν)
    go d (inl e) = half_way a d c n (j * a + i * b) i ν (rw (e, p) (omega arith)) (omega arith)
        (record { over = omega (arith, k.over); under = omega (arith, k.under) })
    go d (inr e) = half_way b d c n (j * a + i * b) j ν (rw (e, p) (omega arith)) (omega arith)
        (record { over = omega (arith, k.over); under = omega (arith, k.under) })

-- ---- two lengths grown by k each: their root grows by no more than 2 k
pub both_longer : (x y k t : ℕ) → x * x + y * y ≤ t * t → (x + k) * (x + k) + (y + k) * (y + k) ≤ (t + 2 * k) * (t + 2 * k)
both_longer x y k t h =
    let a = mul-le-mul_left k (root_le x t (let q : x * x ≤ t * t = omega arith in q)) in
    let b = mul-le-mul_left k (root_le y t (let q : y * y ≤ t * t = omega arith in q)) in
    omega arith

-- ---- a coordinate Y about y₀ moved to lie about c in the same way
pub record Shifted (Y y₀ c : ℕ) : Type 0 where
  pub value : ℕ
  pub about : sqd value c ≡ sqd Y y₀
  pub moved : apart Y value ≡ apart y₀ c

pub shift : (Y y₀ c : ℕ) → y₀ ≤ Y + c → Shifted Y y₀ c
shift Y y₀ c h = record {
  value = Y + c - y₀;
  about = sym (sqd_shift (Y + c - y₀) c y₀) ∙ sqd_at sum (swap c y₀) ∙ sqd_shift Y y₀ c;
  moved = unfold apart in go Y y₀ c h;
}
  where
    sum : Y + c - y₀ + y₀ ≡ Y + c
    sum = omega arith

    swap : (a b : ℕ) → a + b ≡ b + a
    swap a b = omega arith

    go : (Y y₀ c : ℕ) → y₀ ≤ Y + c → Y - (Y + c - y₀) + (Y + c - y₀ - Y) ≡ y₀ - c + (c - y₀)
    go Y y₀ c h = omega arith

-- ---- through b, and times q
pub apart_through : (a b c : ℕ) → apart a c ≤ apart b c + apart b a
apart_through a b c =
    apart_most a c (apart b c + apart b a) (up (apart_under b a) (apart_over b c)) (down (apart_under b c) (apart_over b a))
  where
    up : a ≤ b + apart b a → b ≤ c + apart b c → a ≤ c + (apart b c + apart b a)
    up h k = omega arith

    down : c ≤ b + apart b c → b ≤ a + apart b a → c ≤ a + (apart b c + apart b a)
    down h k = omega arith

pub apart_times : (q a b : ℕ) → apart (q * a) (q * b) ≡ q * apart a b
apart_times q a b = go (apart a b) (apart_split a b)
  where
    go : (d : ℕ) → (b ≡ a + d) ⊎ (a ≡ b + d) → apart (q * a) (q * b) ≡ q * d
    go d (inl e) = rw e (more a d)
      where
        more : (a d : ℕ) → apart (q * a) (q * (a + d)) ≡ q * d
        more a d = unfold apart in step (q * a) (q * d) (q * (a + d)) (let e : q * (a + d) ≡ q * a + q * d = omega arith in e)
          where
            step : (x y z : ℕ) → z ≡ x + y → x - z + (z - x) ≡ y
            step x y z e = omega arith
    go d (inr e) = rw e (more b d)
      where
        more : (b d : ℕ) → apart (q * (b + d)) (q * b) ≡ q * d
        more b d = unfold apart in step (q * b) (q * d) (q * (b + d)) (let e : q * (b + d) ≡ q * b + q * d = omega arith in e)
          where
            step : (x y z : ℕ) → z ≡ x + y → z - x + (x - z) ≡ y
            step x y z e = omega arith
