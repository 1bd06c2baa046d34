-- Bounds by exponents: Bounded f j x says that x is finite and at most 2 ^ j ticks in magnitude. Here quotients, negation and what
-- lies between; sums, products and hypotenuses are in BoundedValue, which asks less of the operands.
use Rattle.std.proofs.Common.{ℕ, suc, ◌+◌, ◌*◌, ◌^◌, ◌<◌, ◌≤◌, max, T, subst, mul-le-mul_right, mul-le-mul_left, one-mul, arith, pow_pos, pow_mono, pow-add}
use lib.Ieee.{div, emax, Float, Format, low, neg, prec}
use lib.Pow.{pow-lt}
use Rattle.arith.proofs.Laws.Bounds.{div_within, round_key_within, Within}
use Rattle.arith.proofs.Laws.Bounds.{within_finite_number}
use Rattle.arith.proofs.roots.Rounding.Key.{finite_number, key, mid, number, number_of}
use Rattle.arith.proofs.roots.Rounding.Key.{prec_pos, unit}
use Rattle.arith.proofs.roots.Rounding.Product.{negative_part, positive_part}
use Rattle.arith.proofs.roots.Rounding.Quotient.{div_key_neg, div_number, div_number_neg}
use Rattle.arith.proofs.roots.Rounding.Sum.{neg_finite_number, neg_key}

abbrev pub overflow : Format → ℕ
overflow f = low f + suc (emax f)

pub record Bounded (f : Format) (j : ℕ) (x : Float) : Type 0 where
  pub sure : T (finite_number f x)
  pub lower : mid f ≤ key f x + 2 ^ j
  pub upper : key f x ≤ mid f + 2 ^ j

pub bounded_within : (f : Format) (j : ℕ) (x : Float) → Bounded f j x → Within f (2 ^ j) x
bounded_within f j x h = record { lower = h.lower; upper = h.upper }

pub mid_lt : (f : Format) (k : ℕ) → k < overflow f → 2 ^ k < mid f
unfolding mid
mid_lt f k h = pow-lt h

pub one_lt : (f : Format) → 1 < 2 ^ prec f
one_lt f = pow-lt (prec_pos f)

pub bounded_of_within : (f : Format) (k : ℕ) (x : Float) → T (number f x) → k < overflow f → Within f (1 * 2 ^ k) x
    → Bounded f k x
bounded_of_within f k x p h w =
    let v : Within f (2 ^ k) x = subst (λ (z : ℕ). Within f z x) (one-mul (2 ^ k)) w in
    record { sure = within_finite_number f (2 ^ k) x p v (mid_lt f k h); lower = v.lower; upper = v.upper }

module _ (f : Format) (k : ℕ) (K : k < overflow f) (i j : ℕ) (x y : Float) (X : Bounded f i x) where
  quot : i + low f ≤ k + j → 2 ^ i * unit f ≤ 1 * 2 ^ k * 2 ^ j
  quot a = unfold unit in rw (one-mul (2 ^ k), ← pow-add 2 i (low f), ← pow-add 2 k j) (pow_mono a)

  -- y is at least 2 ^ j ticks
  pub div_bounded : T (finite_number f y) → mid f + 2 ^ j ≤ key f y → i + low f ≤ k + j → Bounded f k (div f x y)
  div_bounded q Y a = let P : 0 < 2 ^ j = pow_pos j in bounded_of_within f k (div f x y)
      (div_number f x y X.sure q (omega arith)) K (div_within f 1 k (one_lt f) x y X.sure q (2 ^ i) (2 ^ j)
      (bounded_within f i x X) P Y (quot a))

  -- y is at most -2 ^ j ticks
  pub div_bounded_neg : T (finite_number f y) → key f y + 2 ^ j ≤ mid f → i + low f ≤ k + j → Bounded f k (div f x y)
  div_bounded_neg q Y a =
      let P : 0 < 2 ^ j = pow_pos j in
      let m : key f y < mid f = omega arith in
      let w : 0 < negative_part f y = omega arith in
      let B : 2 ^ j ≤ negative_part f y = omega arith in
      let U : positive_part f x * unit f ≤ 2 ^ i * unit f = mul-le-mul_right (unit f)
      (let c : positive_part f x ≤ 2 ^ i = omega arith in c) in
      let V' : negative_part f x * unit f ≤ 2 ^ i * unit f = mul-le-mul_right (unit f)
      (let c : negative_part f x ≤ 2 ^ i = omega arith in c) in
      let L : 1 * 2 ^ k * 2 ^ j ≤ 1 * 2 ^ k * negative_part f y = mul-le-mul_left (1 * 2 ^ k) B in
      let Q : 2 ^ i * unit f ≤ 1 * 2 ^ k * 2 ^ j = quot a in
      let z = round_key_within f (negative_part f x * unit f) (positive_part f x * unit f) (negative_part f y) 1 k w
      (one_lt f) (omega arith) (omega arith) in
      bounded_of_within f k (div f x y) (div_number_neg f x y X.sure q m) K
      (record {
        lower = rw (div_key_neg f x y X.sure q m) z.0;
        upper = rw (div_key_neg f x y X.sure q m) z.1;
      })

pub neg_bounded : (f : Format) (j : ℕ) (x : Float) → Bounded f j x → Bounded f j (neg x)
neg_bounded f j x h = let e = neg_key f x (number_of f x h.sure) in record
    { sure = neg_finite_number f x h.sure; lower = omega arith; upper = omega arith }

pub bounded_up : (f : Format) (i j : ℕ) (x : Float) → i ≤ j → Bounded f i x → Bounded f j x
bounded_up f i j x h b = let l : 2 ^ i ≤ 2 ^ j = pow_mono h in record
    { sure = b.sure; lower = omega arith; upper = omega arith }

-- what lies between two bounded values
pub between_bounded : (f : Format) (j : ℕ) (a m b : Float) → T (number f m) → j < overflow f → Bounded f j a
    → Bounded f j b → key f a ≤ key f m → key f m ≤ key f b → Bounded f j m
between_bounded f j a m b p K A B h k =
    let w : Within f (2 ^ j) m = record { lower = omega arith; upper = omega arith } in
    record { sure = within_finite_number f (2 ^ j) m p w (mid_lt f j K); lower = w.lower; upper = w.upper }

-- the exponent of a sum
abbrev pub one_above : ℕ → ℕ → ℕ
one_above i j = suc (max i j)
