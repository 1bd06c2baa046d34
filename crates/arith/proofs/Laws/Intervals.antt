-- The quotient of two whole numbers i ≤ n, each rounded to the format, is at most 1, since i is no more ticks than n.
use Rattle.std.proofs.Common.{◌≡◌, ℕ, ◌+◌, ◌*◌, ◌^◌, ◌<◌, ◌≤◌, min, false, T, pos, sym, le_trans, le_of_eq, le_refl, lt_of_le_of_lt, mul-le-mul_right, mul_comm, mul-pos, one-mul, mul-one, arith, pow_pos, pow-add}
use lib.Ieee.{Float, Format, binary64, div, emax, low, of_int, prec}
use Rattle.arith.specs.F64.{◌⊘◌}
use Rattle.arith.proofs.Laws.Bounded.{Bounded, bounded_of_within, mid_lt, one_lt}
use Rattle.arith.proofs.Laws.Bounds.{Within, div_within, within_finite_number}
use Rattle.arith.proofs.roots.Rounding.Fraction.{rounded, rounded_ge, rounded_le, rounded_mono}
use Rattle.arith.proofs.roots.Rounding.Key.{finite_number, key, mid, number, prec_pos, unit, unit_pos}
use Rattle.arith.proofs.roots.Rounding.Quotient.{div_number}
use Rattle.arith.proofs.roots.Rounding.RoundKey.{round_key_lem, round_number}
use Rattle.arith.proofs.Laws.Sizes.{Finite}

module _ (f : Format) where
  -- |x| is at most y, which is w > 0 ticks
  ratio_bounded : (x y : Float) (w : ℕ) → T (finite_number f x) → T (finite_number f y) → Within f w x → 0 < w
      → key f y ≡ mid f + w → Bounded f (low f) (div f x y)
  ratio_bounded x y w p q X W e =
      bounded_of_within f (low f) (div f x y) (div_number f x y p q (omega arith)) (omega arith)
      (div_within f 1 (low f) (one_lt f) x y p q w w X W (le_of_eq (sym e)) same)
    where
      same : w * unit f ≤ 1 * 2 ^ low f * w
      same = unfold unit in rw (one-mul (2 ^ low f)) (le_of_eq (mul_comm w (2 ^ low f)))

  -- ---- whole numbers, in ticks
  ticks : ℕ → ℕ
  ticks n = rounded (prec f) (n * unit f) 1

  ticks_mono : (i n : ℕ) → i ≤ n → ticks i ≤ ticks n
  unfolding ticks
  ticks_mono i n h =
      rounded_mono (prec f) (i * unit f) 1 (n * unit f) 1 (prec_pos f) (pow_pos 0) (pow_pos 0)
      (mul-le-mul_right 1 (mul-le-mul_right (unit f) h))

  ticks_some : (n : ℕ) → 0 < n → 0 < ticks n
  unfolding ticks
  ticks_some n h =
      let u : 0 < n * unit f = mul-pos h (unit_pos f) in
      rounded_ge (prec f) (n * unit f) 1 1 0 (prec_pos f) (pow_pos 0) (one_lt f) u

  ticks_below : (k n : ℕ) → k ≤ emax f → n ≤ 2 ^ k → ticks n < mid f
  unfolding ticks
  ticks_below k n K h =
      lt_of_le_of_lt
      (le_trans (rounded_le (prec f) (n * unit f) 1 1 (k + low f) (prec_pos f) (pow_pos 0) (one_lt f) most)
      (le_of_eq (one-mul (2 ^ (k + low f))))) (mid_lt f (k + low f) (omega arith))
    where
      most : n * unit f ≤ 1 * 2 ^ (k + low f) * 1
      most =
          rw (one-mul (2 ^ (k + low f)), mul-one (2 ^ (k + low f)), pow-add 2 k (low f))
          (unfold unit in mul-le-mul_right (2 ^ low f) h)

  whole_key : (n : ℕ) → key f (of_int f (pos n)) ≡ mid f + min (mid f) (ticks n)
  unfolding of_int ticks
  whole_key n = round_key_lem f false n 1

  whole_number : (n : ℕ) → T (number f (of_int f (pos n)))
  unfolding of_int
  whole_number n = round_number f false n 1

  module _ (k n : ℕ) (K : k ≤ emax f) (few : n ≤ 2 ^ k) where
    whole_within : (i : ℕ) → i ≤ n → Within f (ticks n) (of_int f (pos i))
    whole_within i h =
        let e = whole_key i in
        let m = ticks_mono i n h in
        record { lower = omega arith; upper = omega arith }

    whole_finite : (i : ℕ) → i ≤ n → T (finite_number f (of_int f (pos i)))
    whole_finite i h =
        within_finite_number f (ticks n) (of_int f (pos i)) (whole_number i) (whole_within i h) (ticks_below k n K few)

    interval_bounded : 0 < n → (i : ℕ) → i ≤ n → Bounded f (low f) (div f (of_int f (pos i)) (of_int f (pos n)))
    interval_bounded some i h =
        ratio_bounded (of_int f (pos i)) (of_int f (pos n)) (ticks n) (whole_finite i h) (whole_finite n (le_refl n))
        (whole_within i h) (ticks_some n some) (omega (arith, whole_key n, ticks_below k n K few))

-- from 1 to 2 ^ 53 intervals
pub record Intervals (n : ℕ) : Type 0 where
  pub some : 0 < n
  pub few : n ≤ 2 ^ 53

pub interval_finite : {n : ℕ} → Intervals n → (i : ℕ) → i ≤ n
    → Finite 0 (of_int binary64 (pos i) ⊘ of_int binary64 (pos n))
interval_finite {n} N i h =
    record { bounded = interval_bounded binary64 53 n (omega arith) N.few N.some i h }
