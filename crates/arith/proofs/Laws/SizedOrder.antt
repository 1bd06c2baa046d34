-- The order of f64 of known size, as the order of their keys: tests, the larger and the smaller of two, x - y ≤ x ≤ x + y for y ≥ 0,
-- half of a number and x - 0, and hypotenuses, which grow with the magnitude of each leg.
use Rattle.std.proofs.Common.{◌≡◌, ℕ, ◌+◌, ◌*◌, ◌<◌, ◌≤◌, min as minℕ, max as maxℕ, Bool, true, false, not, T, ℤ, sym, refl, ap, ◌∙◌, le_trans, le_of_eq, lt_of_le_of_lt, add-le-add, mul-le-mul, arith, lit≤, nltb→le}
use lib.Ieee.{Float, binary64, down, fin, fits, lt, mul, of_bits, up}
use lib.Ieee.Scale.{finite}
use Rattle.arith.specs.F64.{◌⊕◌, ◌⊖◌, ◌⊗◌, ◌≺◌, ◌≼◌, 𝟘, ½}
use Rattle.arith.specs.Num.{max, min}
use Rattle.arith.specs.roots.Roots.{hypot}
use Rattle.arith.proofs.roots.Rounding.Key.{finite_number, key, magnitude, mid, plus_zero, unit}
use Rattle.arith.proofs.roots.Rounding.KeyOrder.{key→le, lt→key, nlt→key}
use Rattle.arith.proofs.Laws.BoundedValue.{BoundedValue, bounded_value}
use Rattle.arith.proofs.Laws.Exact.{sub_zero}
use Rattle.arith.proofs.Laws.Hypot.{hypot_root}
use Rattle.arith.proofs.Laws.HypotKey.{root_not_negative}
use Rattle.arith.proofs.Laws.Monotone.{times_key_mono}
use Rattle.arith.proofs.Laws.Order.{max_key, min_key, nle→key}
use Rattle.arith.proofs.Laws.RootKey.{root_mono}
use Rattle.arith.proofs.Laws.Shift.{add_value_ge, less_part, sub_value_le}
use Rattle.arith.proofs.Laws.Sizes.{Finite, Given, K, M, finite_number_lem, zero_finite, zero_key}

-- ---- tests
module _ {i j : ℕ} {x y : Float} (X : Finite i x) (Y : Finite j y) where
  pub key_le : K x ≤ K y → T (x ≼ y)
  key_le = key→le binary64 x y (finite_number_lem X) (finite_number_lem Y)

  pub below_key : T (x ≺ y) → K x < K y
  below_key = lt→key binary64 x y (finite_number_lem X) (finite_number_lem Y)

  pub not_below_key : T (not (x ≺ y)) → K y ≤ K x
  not_below_key = nlt→key binary64 x y (finite_number_lem X) (finite_number_lem Y)

  pub not_le_key : T (not (x ≼ y)) → K y < K x
  not_le_key = nle→key binary64 x y (finite_number_lem X) (finite_number_lem Y)

  pub max_finite_key : K (max x y) ≡ maxℕ (K x) (K y)
  max_finite_key = max_key binary64 x y (finite_number_lem X) (finite_number_lem Y)

  pub min_finite_key : K (min x y) ≡ minℕ (K x) (K y)
  min_finite_key = min_key binary64 x y (finite_number_lem X) (finite_number_lem Y)

module _ {n : ℕ} {x : Float} (X : Finite n x) where
  pub zero_le_key : M ≤ K x → T (𝟘 ≼ x)
  zero_le_key h = key_le (zero_finite 0) X (le_trans (le_of_eq zero_key) h)

  pub positive : T (not (x ≼ 𝟘)) → M < K x
  positive h = lt_of_le_of_lt (le_of_eq (sym zero_key)) (not_le_key X (zero_finite 0) h)

-- ---- y ≥ 0, as number 9 tests it: whether f64 holds y or not
not_less : (t : Bool) (n : ℕ) (d : ℤ) → T (not (fin t n d ≺ 𝟘)) → less_part t (n * up d) ≡ 0
unfolding lt of_bits
not_less false n d h = refl
not_less true n d h = omega (arith, nltb→le 0 (n * up d * 1 + 0 * 1 * down d) h)

module _ {i j : ℕ} {x y : Float} (X : Finite i x) (Y : Given j y) (h : T (not (y ≺ 𝟘))) where
  pub add_given_ge : K x ≤ K (x ⊕ y)
  add_given_ge = go Y.value h
    where
      go : {y : Float} → BoundedValue binary64 (j + 1074) y → T (not (y ≺ 𝟘)) → K x ≤ K (x ⊕ y)
      go (bounded_value {s = t} {m = n} {e = d} v) h = add_value_ge binary64 x t n d X.bounded.sure (not_less t n d h)

  pub sub_given_le : K (x ⊖ y) ≤ K x
  sub_given_le = go Y.value h
    where
      go : {y : Float} → BoundedValue binary64 (j + 1074) y → T (not (y ≺ 𝟘)) → K (x ⊖ y) ≤ K x
      go (bounded_value {s = t} {m = n} {e = d} v) h = sub_value_le binary64 x t n d X.bounded.sure (not_less t n d h)

-- ---- half of what is not negative is not, half of 0 is 0, and x - 0 is x
half_sure : T (finite_number binary64 ½)
unfolding of_bits fits
half_sure = tt

half_positive : M ≤ K ½
unfolding mid key magnitude unit of_bits
half_positive = lit≤ tt

pub half_of_zero : 𝟘 ⊗ ½ ≡ 𝟘
unfolding of_bits mul
half_of_zero = refl

pub half_not_negative : {n : ℕ} {x : Float} → Finite n x → M ≤ K x → M ≤ K (x ⊗ ½)
half_not_negative {x = x} X h =
    le_trans (le_of_eq (sym (ap K half_of_zero ∙ zero_key)))
    (times_key_mono binary64 𝟘 x ½ (zero_finite 0).bounded.sure X.bounded.sure half_sure half_positive
    (le_trans (le_of_eq zero_key) h))

pub sub_zero_finite : {n : ℕ} {x : Float} → Finite n x → x ⊖ 𝟘 ≡ x
unfolding of_bits plus_zero
sub_zero_finite {x = x} X = sub_zero binary64 x X.bounded.sure

-- ---- hypotenuses
given_finite : {n : ℕ} {x : Float} → Given n x → T (finite x)
given_finite {n} X = go X.value
  where
    go : {x : Float} → BoundedValue binary64 (n + 1074) x → T (finite x)
    go (bounded_value v) = tt

module _ {i j : ℕ} {x y : Float} (X : Given i x) (Y : Given j y) where
  pub hypot_not_negative : M ≤ K (hypot binary64 x y)
  hypot_not_negative = rw (hypot_root binary64 x y (given_finite X) (given_finite Y)) (root_not_negative binary64 _)

  pub hypot_not_more : {k l : ℕ} {x' y' : Float} → Given k x' → Given l y' → magnitude binary64 x ≤ magnitude binary64 x'
      → magnitude binary64 y ≤ magnitude binary64 y' → K (hypot binary64 x y) ≤ K (hypot binary64 x' y')
  hypot_not_more {x' = x'} {y' = y'} X' Y' h k =
      rw (
        hypot_root binary64 x y (given_finite X) (given_finite Y),
        hypot_root binary64 x' y' (given_finite X') (given_finite Y'),
      ) (root_mono binary64 _ _ (add-le-add (mul-le-mul h h) (mul-le-mul k k)))
