-- A product by r ≥ 0, divided by h > 0, keeps the side of its other factor x; where |x| ≤ h it is at most r's bound. Each is one
-- rounding of a signed fraction, and 2 ^ i times h is a number of the format, so that it bounds r · x after rounding too.
use Rattle.std.proofs.Common.{◌≡◌, ℕ, ◌+◌, ◌-◌, ◌*◌, ◌^◌, ◌<◌, ◌≤◌, Bool, true, false, T, sym, ap, ◌∙◌, le_trans, le_of_eq, add-zero, mul-le-mul, one-mul, mul-zero, zero-add, zero-mul, arith, pow-add}
use lib.Ieee.{div, Float, Format, low, mul}
use Rattle.arith.proofs.Laws.Bounded.{Bounded, bounded_of_within, one_lt, overflow}
use Rattle.arith.proofs.Laws.Bounds.{div_within, round_key_within, Within}
use Rattle.arith.proofs.Laws.Leg.{Leg}
use Rattle.arith.proofs.roots.Rounding.Key.{finite_number, key, key_is, magnitude, mid, negative, Representable, representable_of}
use Rattle.arith.proofs.roots.Rounding.Key.{side, unit, unit_pos}
use Rattle.arith.proofs.roots.Rounding.Product.{mul_key, negative_part, positive_part}
use Rattle.arith.proofs.roots.Rounding.Quotient.{div_key, div_number}
use Rattle.arith.proofs.roots.Rounding.RoundKey.{round_key, round_key_side}

-- ---- one rounding keeps the side
side_above : (f : Format) (a c : ℕ) → 0 < c → mid f ≤ round_key f a 0 c
side_above f a c C = rw (round_key_side f false a a 0 c C (sym (zero-add a))) (omega arith)

side_below : (f : Format) (a c : ℕ) → 0 < c → round_key f 0 a c ≤ mid f
side_below f a c C = rw (round_key_side f true a 0 a c C (sym (zero-add a))) (omega arith)

module _ (f : Format) (r x : Float) (p : T (finite_number f r)) (q : T (finite_number f x)) (R : mid f ≤ key f r) where
  product_key : key f (mul f r x)
      ≡ round_key f (positive_part f r * positive_part f x) (positive_part f r * negative_part f x) (unit f)
  product_key =
      let z : negative_part f r ≡ 0 = omega arith in
      mul_key f r x p q ∙ rw (
        z,
        zero-mul (negative_part f x),
        zero-mul (positive_part f x),
        add-zero (positive_part f r * positive_part f x),
        add-zero (positive_part f r * negative_part f x),
      )

  pub product_above : mid f ≤ key f x → mid f ≤ key f (mul f r x)
  product_above h =
      let z : negative_part f x ≡ 0 = omega arith in
      rw (product_key, z, mul-zero (positive_part f r)) (side_above f (positive_part f r * positive_part f x) (unit f) (unit_pos f))

  pub product_below : key f x ≤ mid f → key f (mul f r x) ≤ mid f
  product_below h =
      let z : positive_part f x ≡ 0 = omega arith in
      rw (product_key, z, mul-zero (positive_part f r)) (side_below f (positive_part f r * negative_part f x) (unit f) (unit_pos f))

module _ (f : Format) (x h : Float) (p : T (finite_number f x)) (q : T (finite_number f h)) (H : mid f < key f h) where
  some : 0 < positive_part f h
  some = omega arith

  pub quotient_above : mid f ≤ key f x → mid f ≤ key f (div f x h)
  quotient_above l =
      let z : negative_part f x ≡ 0 = omega arith in
      rw (div_key f x h p q H, z, zero-mul (unit f)) (side_above f (positive_part f x * unit f) (positive_part f h) some)

  pub quotient_below : key f x ≤ mid f → key f (div f x h) ≤ mid f
  quotient_below l =
      let z : positive_part f x ≡ 0 = omega arith in
      rw (div_key f x h p q H, z, zero-mul (unit f)) (side_below f (negative_part f x * unit f) (positive_part f h) some)

-- ---- (r · x) / h for 0 ≤ r ≤ 2 ^ i and |x| ≤ h
module _ (f : Format) (i : ℕ) (r x h : Float) (A : Bounded f (i + low f) r) (R : mid f ≤ key f r) (q : T (finite_number f x))
    (w : T (finite_number f h)) (H : mid f < key f h) (leg : Leg f x h) (p : T (finite_number f (mul f r x))) where
  abbrev ticks : ℕ
  ticks = positive_part f h

  scaled : 2 ^ (i + low f) * ticks ≡ ticks * 2 ^ i * unit f
  scaled = unfold unit in rw (pow-add 2 i (low f)) (omega arith)

  part : (a : ℕ) → a ≤ ticks → positive_part f r * a ≤ ticks * 2 ^ i * unit f
  part a l =
      let k : positive_part f r ≤ 2 ^ (i + low f) = omega (arith, A.upper) in
      le_trans (mul-le-mul k l) (le_of_eq scaled)

  within : (d : Representable f h) → ticks ≡ d.q * 2 ^ d.j → Within f (ticks * 2 ^ i) (mul f r x)
  within d e =
      let z : ticks * 2 ^ i ≡ d.q * 2 ^ (d.j + i) = rw (e, pow-add 2 d.j i) (omega arith) in
      let a : positive_part f r * positive_part f x ≤ ticks * 2 ^ i * unit f =
      part (positive_part f x) (omega (arith, leg.most)) in
      let b : positive_part f r * negative_part f x ≤ ticks * 2 ^ i * unit f =
      part (negative_part f x) (omega (arith, leg.least)) in
      let k = round_key_within f (positive_part f r * positive_part f x) (positive_part f r * negative_part f x) (unit f) d.q
      (d.j + i) (unit_pos f) d.short (rw (← z) (omega arith)) (rw (← z) (omega arith)) in
      record { lower = rw (product_key f r x A.sure q R, z) k.0; upper = rw (product_key f r x A.sure q R, z) k.1 }

  above_mid : (s : Bool) (t : ℕ) → mid f < side (mid f) s t → side (mid f) s t - mid f ≡ t
  above_mid false t l = omega arith
  above_mid true t l = omega arith

  size : ticks ≡ magnitude f h
  size = rw (key_is f h) (above_mid (negative h) (magnitude f h) (rw (key_is f h) at H))

  pub towards_bounded : i + low f < overflow f → Bounded f (i + low f) (div f (mul f r x) h)
  towards_bounded K =
      let d = representable_of f h w in
      bounded_of_within f (i + low f) (div f (mul f r x) h) (div_number f (mul f r x) h p w H) K
      (div_within f 1 (i + low f) (one_lt f) (mul f r x) h p w (ticks * 2 ^ i) ticks (within d (size ∙ d.whole)) (omega arith)
      (omega arith) (le_of_eq (sym scaled ∙ ap (λ (z : ℕ). z * ticks) (sym (one-mul (2 ^ (i + low f)))))))
