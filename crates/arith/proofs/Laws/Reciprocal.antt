-- To divide by a power of two is to multiply by its reciprocal, in every format and for every operand, since both round one and the
-- same fraction.
use Rattle.std.proofs.Common.{◌≡◌, zero, suc, Bool, false, ℤ, pos, negsuc, neg_ℤ, refl, mul_comm, one-mul}
use lib.Ieee.{Float, Format, binary64, div, down, fin, inf, mul, nan, of_bits, of_int, up}
use Rattle.arith.specs.F64.{◌⊗◌, ◌⊘◌}

-- 2 ^ d, negative where s is true: a format that holds it writes it in this way alone
abbrev pub power : Bool → ℤ → Float
power s d = fin s 1 d

up_reciprocal : (d : ℤ) → up (neg_ℤ d) ≡ down d
up_reciprocal (pos zero) = refl
up_reciprocal (pos (suc k)) = refl
up_reciprocal (negsuc k) = refl

down_reciprocal : (d : ℤ) → down (neg_ℤ d) ≡ up d
down_reciprocal (pos zero) = refl
down_reciprocal (pos (suc k)) = refl
down_reciprocal (negsuc k) = refl

-- x is any value: NaN, an infinity, a zero or a subnormal of either sign; d any whole number, so each whose two powers f holds.
pub mul_reciprocal : (f : Format) (x : Float) (s : Bool) (d : ℤ) → mul f x (power s (neg_ℤ d)) ≡ div f x (power s d)
unfolding mul div
mul_reciprocal f nan s d = refl
mul_reciprocal f (inf t) s d = refl
mul_reciprocal f (fin t m e) s d =
    rw (up_reciprocal d, down_reciprocal d, one-mul (down d), one-mul (up d), mul_comm (up d) (down e)) refl

-- 0.0625
abbrev pub sixteenth : Float
sixteenth = of_bits binary64 0x3fb0000000000000

pub mul_sixteenth : (x : Float) → x ⊗ sixteenth ≡ x ⊘ of_int binary64 (pos 16)
unfolding of_bits of_int
mul_sixteenth x = mul_reciprocal binary64 x false (pos 4)
