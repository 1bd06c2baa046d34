-- Within f w x: |x| is at most w ticks. What that says of the magnitude, of a rounded fraction and of a quotient.
use Rattle.std.proofs.Common.{ℕ, ◌+◌, ◌-◌, ◌*◌, ◌^◌, ◌<◌, ◌≤◌, Bool, true, false, T, mul-le-mul_right, mul-le-mul_left, arith}
use lib.Ieee.{div, Float, Format, prec}
use Rattle.arith.proofs.roots.Rounding.Fraction.{rounded, rounded_le}
use Rattle.arith.proofs.roots.Rounding.Key.{finite_inside, finite_number, key, key_is, magnitude, magnitude_le, mid}
use Rattle.arith.proofs.roots.Rounding.Key.{negative, number, number_of, prec_pos, side, unit}
use Rattle.arith.proofs.roots.Rounding.Product.{negative_part, positive_part}
use Rattle.arith.proofs.roots.Rounding.Quotient.{div_key}
use Rattle.arith.proofs.roots.Rounding.RoundKey.{round_key}

-- ---- |x| is at most w ticks
pub record Within (f : Format) (w : ℕ) (x : Float) : Type 0 where
  pub lower : mid f ≤ key f x + w
  pub upper : key f x ≤ mid f + w

pub within_finite_number : (f : Format) (w : ℕ) (x : Float) → T (number f x) → Within f w x → w < mid f
    → T (finite_number f x)
within_finite_number f w x p h l = finite_inside f x p (omega arith) (omega arith)

pub magnitude_within : (f : Format) (w : ℕ) (x : Float) → T (finite_number f x) → Within f w x → magnitude f x ≤ w
magnitude_within f w x p h = go (negative x) (rw (key_is f x) at h.lower) (rw (key_is f x) at h.upper)
  where
    t_le : magnitude f x ≤ mid f
    t_le = magnitude_le f x (number_of f x p)

    go : (s : Bool) → mid f ≤ side (mid f) s (magnitude f x) + w → side (mid f) s (magnitude f x) ≤ mid f + w
        → magnitude f x ≤ w
    go false a b = omega arith
    go true a b = omega (arith, t_le)

pub round_key_within : (f : Format) (a b c q j : ℕ) → 0 < c → q < 2 ^ prec f → a ≤ b + q * 2 ^ j * c
    → b ≤ a + q * 2 ^ j * c → (mid f ≤ round_key f a b c + q * 2 ^ j) × (round_key f a b c ≤ mid f + q * 2 ^ j)
unfolding round_key
round_key_within f a b c q j C Q h k =
    let x : rounded (prec f) (a - b) c ≤ q * 2 ^ j = rounded_le (prec f) (a - b) c q j (prec_pos f) C Q (omega arith) in
    let y : rounded (prec f) (b - a) c ≤ q * 2 ^ j = rounded_le (prec f) (b - a) c q j (prec_pos f) C Q (omega arith) in
    omega arith

module _ (f : Format) (q j : ℕ) (Q : q < 2 ^ prec f) (x y : Float) (px : T (finite_number f x))
    (py : T (finite_number f y)) (v w : ℕ) (X : Within f v x) where
  pub div_within : 0 < w → mid f + w ≤ key f y → v * unit f ≤ q * 2 ^ j * w → Within f (q * 2 ^ j) (div f x y)
  div_within W Y l =
      let a = positive_part f x in
      let c = negative_part f x in
      let b = positive_part f y in
      let B : w ≤ b = omega arith in
      let P : 0 < b = omega arith in
      let m : mid f < key f y = omega arith in
      let A : a * unit f ≤ v * unit f = mul-le-mul_right (unit f) (omega arith) in
      let C : c * unit f ≤ v * unit f = mul-le-mul_right (unit f) (omega arith) in
      let L : q * 2 ^ j * w ≤ q * 2 ^ j * b = mul-le-mul_left (q * 2 ^ j) B in
      let z = round_key_within f (a * unit f) (c * unit f) b q j P Q (omega arith) (omega arith) in
      record { lower = rw (div_key f x y px py m) z.0; upper = rw (div_key f x y px py m) z.1 }
