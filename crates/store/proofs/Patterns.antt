-- Which bit patterns are NaNs, by their magnitude.
use Prim.Native.Nat.{ℕ, ◌*◌, ◌%◌, ◌^◌, ◌≤◌}
use mathlib.Core.Bool.{Bool, not}
use mathlib.Core.Path.{◌≡◌, refl, sym, subst}
use lib.Arith.{le→nltb}
use lib.Dec.{T}
use lib.Ieee.{nan, binary64, div, of_bits, nan_bits}
use lib.Ieee.Bits.{nan_bits_above}

-- a magnitude up to that of an infinity is no NaN's
pub not_nan : (n : ℕ) → n % 2 ^ 63 ≤ 2047 * 2 ^ 52 → T (not (nan_bits binary64 n))
not_nan n h =
    subst (λ (b : Bool). T (not b)) (sym (nan_bits_above binary64 n)) (le→nltb (2047 * 2 ^ 52) (n % 2 ^ 63) h)

pub zero_by_zero : div binary64 (of_bits binary64 0) (of_bits binary64 0) ≡ nan
unfolding div of_bits
zero_by_zero = refl
