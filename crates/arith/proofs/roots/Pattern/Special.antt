-- Signs, infinities and NaNs by their bits and by comparisons.
use Rattle.std.proofs.Common.{◌≡◌, ℕ, ◌*◌, ◌%◌, ◌^◌, ◌<◌, ◌≤◌, Bool, true, false, not, ◌&&◌, ◌||◌, T, eqb, ltb, leb, sym, refl, ap, ◌∙◌, subst, arith, le→leb, lt→ltb}
use mathlib.Core.Bool.{beq}
use lib.Arith.{le→nltb, lt→nleb}
use lib.Ieee.{add, binary64, down, eq, fin, Float, inf, is_nan, level, lt, mul, nan, nan_bits, of_bits, up}
use lib.Ieee.Bits.{is_false, is_true, nan_bits_above, nan_bits_is}

-- ---- signs, and the patterns of NaNs
pub plus_sign : (b : ℕ) → b < 2 ^ 63 → leb (2 ^ 63) b ≡ false
plus_sign b h = is_false (leb (2 ^ 63) b) (lt→nleb (2 ^ 63) b h)

pub minus_sign : (b : ℕ) → 2 ^ 63 ≤ b → leb (2 ^ 63) b ≡ true
minus_sign b h = is_true (leb (2 ^ 63) b) (le→leb (2 ^ 63) b h)

low_part : (n : ℕ) → n ≤ 2047 * 2 ^ 52 → n % 2 ^ 63 ≤ 2047 * 2 ^ 52
low_part n h = omega arith

pub no_nan : (n : ℕ) → n ≤ 2047 * 2 ^ 52 → T (not (nan_bits binary64 n))
no_nan n h = subst (λ (b : Bool). T (not b)) (sym (nan_bits_above binary64 n))
    (le→nltb (2047 * 2 ^ 52) (n % 2 ^ 63) (low_part n h))

pub is_nan_lem : (x : Float) → T (is_nan x) → x ≡ nan
unfolding is_nan
is_nan_lem nan h = refl
is_nan_lem (inf s) h = absurd h
is_nan_lem (fin s m e) h = absurd h

pub above_inf : (b : ℕ) → 2047 * 2 ^ 52 < b % 2 ^ 63 → of_bits binary64 b ≡ nan
above_inf b h = is_nan_lem (of_bits binary64 b) (subst T (nan_bits_above' b ∙ nan_bits_is binary64 b)
    (lt→ltb (2047 * 2 ^ 52) (b % 2 ^ 63) h))
  where
    nan_bits_above' : (b : ℕ) → ltb (2047 * 2 ^ 52) (b % 2 ^ 63) ≡ nan_bits binary64 b
    nan_bits_above' b = sym (nan_bits_above binary64 b)

-- ---- a value is equal to itself unless it is a NaN
yes : true ≡ false → ⊥
yes p = subst (λ (b : Bool). T b) p tt

no : false ≡ true → ⊥
no p = subst (λ (b : Bool). T (not b)) p tt

same_sign : (s : Bool) → beq s s ≡ true
same_sign true = refl
same_sign false = refl

same_level : (s : Bool) (a : ℕ) → level s a s a ≡ true
same_level s a = ap (λ (b : Bool). b && (beq s s || eqb a 0)) (is_true (eqb a a) (lib.Dec.eqb_refl a)) ∙ ap
    (λ (b : Bool). b || eqb a 0) (same_sign s)

pub unlike_itself : (x : Float) → eq x x ≡ false → x ≡ nan
unfolding eq
unlike_itself nan h = refl
unlike_itself (inf s) h = absurd (yes (sym (same_sign s) ∙ h))
unlike_itself (fin s m e) h = absurd (yes (sym (same_level s (m * up e * down e)) ∙ h))

pub like_itself : (x : Float) → eq x x ≡ true → T (not (is_nan x))
unfolding eq is_nan
like_itself nan h = no h
like_itself (inf s) h = tt
like_itself (fin s m e) h = tt

-- ---- a sum of squares is a NaN where an operand is
sum_nan : (x : Float) → add binary64 x nan ≡ nan
unfolding add
sum_nan nan = refl
sum_nan (inf s) = refl
sum_nan (fin s m e) = refl

abbrev squares : Float → Float → Float
squares x y = add binary64 (mul binary64 x x) (mul binary64 y y)

pub squares_left : (x y : Float) → is_nan (squares x y) ≡ false → T (not (is_nan x))
unfolding is_nan add mul
squares_left nan y h = yes h
squares_left (inf s) y h = tt
squares_left (fin s m e) y h = tt

pub squares_right : (x y : Float) → is_nan (squares x y) ≡ false → T (not (is_nan y))
unfolding is_nan mul
squares_right x nan h = yes (subst (λ (z : Float). is_nan z ≡ false) (sum_nan (mul binary64 x x)) h)
squares_right x (inf s) h = tt
squares_right x (fin s m e) h = tt

pub greater : (x y : Float) → lt x y ≡ true → T (not (is_nan y))
unfolding lt is_nan
greater nan y h = absurd (no h)
greater (inf s) nan h = no h
greater (fin s m e) nan h = no h
greater (inf s) (inf t) h = tt
greater (inf s) (fin t n d) h = tt
greater (fin s m e) (inf t) h = tt
greater (fin s m e) (fin t n d) h = tt
