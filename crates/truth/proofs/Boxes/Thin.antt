-- A SIDE THAT 01 DOES NOT TAKE FOR A POINT is at least 2 ^ 600 units long: a shorter one has a squared length far below 1e-24.
use Prim.Native.Nat.{◌*◌, ◌+◌, ◌<◌, ◌^◌, suc, ℕ, ◌≤◌}
use mathlib.Core.Bool.{not}
use mathlib.Core.Logic.{inl, inr}
use mathlib.Core.Path.{◌≡◌, ap}
use native.Mathlib.Nat.{le_of_lt, le_of_mul-le-mul_left, le_trans, mul-le-mul_right}
use native.Mathlib.Omega.{arith}
use lib.Dec.{leb→le, lit<, T, T_not}
use lib.Ieee.{binary64, Float, of_bits}
use Rattle.arith.proofs.roots.Numbers.{decide}
use Rattle.arith.proofs.roots.Rounding.Key.{key, magnitude, mid, unit}
use Rattle.arith.proofs.roots.Rounding.KeyOrder.{key→le}
use Rattle.arith.specs.F64.{◌⊖◌, ◌⊗◌, ◌≼◌, e_24}
use Rattle.arith.proofs.Laws.Bounded.{Bounded}
use Rattle.arith.proofs.Laws.BoundedValue.{bounded→value, mul_value}
use Rattle.arith.proofs.Laws.Sizes.{e_24_finite, Finite, finite_number_lem, finite_raise, K, M, sub_finite}
use Rattle.arith.specs.Whole.{apart}
use Rattle.arith.proofs.Laws.RoundingError.{Close}
use Rattle.arith.proofs.Laws.OperationErrors.{apart_most, apart_over, apart_under}
use Rattle.truth.proofs.Boxes.Lengths.{Dotted}
use Rattle.truth.proofs.Boxes.Floats.{exact_difference, H, no_length, no_product}

module _ (x x' y y' e' : Float) (X : Finite 23 x) (X' : Finite 23 x') (Y : Finite 23 y) (Y' : Finite 23 y') (level : K y' ≡ K y)
    (d : Dotted e' (x' ⊖ x) (x' ⊖ x) (y' ⊖ y) (y' ⊖ y)) (digits : 1024 ≤ H) where
  up : {c : Float} → Finite 23 c → Finite 200 c
  up C = finite_raise C {m = 200} tt

  less : {b c : Float} → Finite 23 b → Finite 23 c → Finite 200 (b ⊖ c)
  less B C = finite_raise (sub_finite B C tt) {m = 200} tt

  length_bounded : (n : ℕ) → apart (K x') (K x) ≤ 2 ^ n → Bounded binary64 (suc n) (x' ⊖ x)
  length_bounded n l = record { sure = (sub_finite X' X tt).bounded.sure; lower = go.0; upper = go.1 }
    where
      go : (M ≤ K (x' ⊖ x) + 2 ^ suc n) × (K (x' ⊖ x) ≤ M + 2 ^ suc n)
      go = rw (two) (both H (K (x' ⊖ x)) (K x) (K x') M (2 ^ n) (apart (K x') (K x)) digits l (apart_under_key) (apart_over_key)
          (exact_difference x' x (up X') (up X)))
        where
          two : 2 ^ suc n ≡ 2 * 2 ^ n
          two = omega arith

          apart_over_key : K x' ≤ K x + apart (K x') (K x)
          apart_over_key = apart_over (K x') (K x)

          apart_under_key : K x ≤ K x' + apart (K x') (K x)
          apart_under_key = apart_under (K x') (K x)

          both : (c k a b m w h : ℕ) → 1024 ≤ c → h ≤ w → a ≤ b + h → b ≤ a + h → Close (2 * c * (k + a)) (2 * c * (m + b)) h
              → (m ≤ k + 2 * w) × (k ≤ m + 2 * w)
          both c k a b m w h o l p q s =
              let f = near (m + b) (k + a) s.under in
              let g = near (k + a) (m + b) s.over in
              (omega arith, omega arith)
            where
              near : (x y : ℕ) → 2 * c * x ≤ 2 * c * y + h → x ≤ y + h
              near x y n = le_of_mul-le-mul_left (let z : 2 * c * x ≤ 2 * c * (y + h) = omega (arith, mul-le-mul_right h o) in z)
                  (let z : 0 < 2 * c = omega arith in z)

  square_bounded : apart (K x') (K x) ≤ 2 ^ 600 → Bounded binary64 200 ((x' ⊖ x) ⊗ (x' ⊖ x))
  square_bounded l = mul_value binary64 601 601 200 (lit< tt) (leb→le _ _ tt)
      (bounded→value binary64 601 _ (length_bounded 600 l)) (bounded→value binary64 601 _ (length_bounded 600 l))

  short : apart (K x') (K x) ≤ 2 ^ 600 → K e' ≤ M + 2 * 2 ^ 200
  short l = go H (K e') (K ((x' ⊖ x) ⊗ (x' ⊖ x))) (K ((y' ⊖ y) ⊗ (y' ⊖ y))) M (2 ^ 200) (apart _ M) (apart _ M) digits
      d.sum.over (square_bounded l).upper
      (no_product (y' ⊖ y) (y' ⊖ y) (less Y' Y) (less Y' Y) (no_length y' y (up Y') (up Y) level))
      (apart_most _ M _ (square_bounded l).upper (square_bounded l).lower) (none _ M)
    where
      none : (k m : ℕ) → k ≡ m → apart k m ≤ 0
      none k m e = apart_most k m 0 (omega arith) (omega arith)

      go : (c k s t m w p q : ℕ) → 1024 ≤ c → 2 * c * (k + m) ≤ 2 * c * (s + t) + (p + q) → s ≤ m + w → t ≡ m → p ≤ w
          → (t ≡ m → q ≤ 0) → k ≤ m + 2 * w
      go c k s t m w p q o h l e f g = near (g e)
        where
          near : q ≤ 0 → k ≤ m + 2 * w
          near z = le_of_mul-le-mul_left (let y : 2 * c * k
              ≤ 2 * c * (m + 2 * w) = omega (arith, mul-le-mul_right w o, h, mul-le-mul_right (2 * c) l, ap (λ v. 2 * c * v) e)
              in y) (let y : 0 < 2 * c = omega arith in y)

  -- NOT TAKEN FOR A POINT
  pub not_thin : T (not (e' ≼ e_24)) → 2 ^ 600 ≤ apart (K x') (K x)
  not_thin n = elim (decide (2 ^ 600) (apart (K x') (K x))) [
    | inl l ↦ l
    | inr l ↦ absurd (T_not (e' ≼ e_24) n (key→le binary64 e' e_24 (finite_number_lem d.finite) (finite_number_lem e_24_finite)
        (le_trans (short (le_of_lt l)) tiny)))
  ]
    where
      tiny : M + 2 * 2 ^ 200 ≤ K e_24
      tiny = unfold mid key magnitude unit of_bits in leb→le _ _ tt
