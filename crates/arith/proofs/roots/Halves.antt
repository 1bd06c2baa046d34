-- Squares by halves: c * c by c's digits of 28 bits, and b * b / 4^d by the parts of b above and below 2^d, of which the lower
-- one's square is left out.
use Rattle.std.proofs.Common.{◌≡◌, ℕ, ◌+◌, ◌*◌, ◌/◌, ◌%◌, ◌^◌, ◌<◌, ◌≤◌, sym, ap, ◌∙◌, subst, le_trans, lt_of_le_of_lt, le_of_lt, mul-le-mul_right, mod-lt, div-lt_iff_lt-mul, mul-le-mul, mul-le-mul_left, mul-pos, div-add-mod', le-div_iff_mul-le, div-mul-le_self, arith, pow_pos, pow-add, shl_lt}
use lib.Pow.{shr_le}

pub product : {a b : ℕ} (s t : ℕ) → a < 2 ^ s → b < 2 ^ t → a * b < 2 ^ (s + t)
product {a} s t ha hb = lt_of_le_of_lt (mul-le-mul_left a (le_of_lt hb)) (shl_lt s t ha)

-- the square of a number of two digits
expand : (P a b : ℕ) → (a * P + b) * (a * P + b) ≡ a * a * (P * P) + 2 * a * b * P + b * b
expand P a b = omega arith

-- c is its two digits
whole : (c : ℕ) → c / 268435456 * 268435456 + c % 268435456 ≡ c
whole c = omega arith

pub digits : (c : ℕ) → c * c ≡ c / 268435456 * (c / 268435456) * 72057594037927936 + (2 * (c / 268435456) * (c %
    268435456)) * 268435456 + c % 268435456 * (c % 268435456)
digits c = ap (λ (n : ℕ). n * n) (sym (whole c)) ∙ expand 268435456 (c / 268435456) (c % 268435456)

-- ---- (t P + l)^2 / P^2 is t^2 + 2 t l / P, or 1 more
module _ (t l P : ℕ) (p : 0 < P) where
  least : t * t + 2 * t * l / P ≤ (t * P + l) * (t * P + l) / (P * P)
  least = (le-div_iff_mul-le (mul-pos p p)).1 (let h = mul-le-mul_right P (div-mul-le_self (2 * t * l) P) in omega arith)

  most : l < P → (t * P + l) * (t * P + l) / (P * P) ≤ t * t + 2 * t * l / P + 1
  most s =
      let q = ap (λ (z : ℕ). z * P) (div-add-mod' (2 * t * l) P) in
      let r = mul-le-mul_right P (mod-lt (2 * t * l) p) in
      let u = mul-le-mul (le_of_lt s) (le_of_lt s) in
      let w : (t * P + l) * (t * P + l) < (t * t + 2 * t * l / P + 2) * (P * P) = omega arith in
      let z = (div-lt_iff_lt-mul (mul-pos p p)).1 w in
      omega arith

-- what holds of b, cut at 2^d, its lower part being l
pub record Cut (b d l : ℕ) : Type 0 where
  pub least : b / 2 ^ d * (b / 2 ^ d) + 2 * (b / 2 ^ d) * l / 2 ^ d ≤ b * b / 2 ^ (2 * d)
  pub most : b * b / 2 ^ (2 * d) ≤ b / 2 ^ d * (b / 2 ^ d) + 2 * (b / 2 ^ d) * l / 2 ^ d + 1
  pub cross : 2 * (b / 2 ^ d) * l ≤ 2 * b
  pub cross_part : 2 * (b / 2 ^ d) * l / 2 ^ d ≤ 2 * b

twice : (d : ℕ) → d + d ≡ 2 * d
twice d = omega arith

crossed : (t l P b : ℕ) → t * P + l ≡ b → l < P → 2 * t * l ≤ 2 * b
crossed t l P b e s = let h = mul-le-mul_left t (le_of_lt s) in omega arith

at_rest : (b d : ℕ) → Cut b d (b % 2 ^ d)
at_rest b d =
    let P = 2 ^ d in
    let t = b / P in
    let l = b % P in
    let e : t * P + l ≡ b = div-add-mod' b P in
    let f : P * P ≡ 2 ^ (2 * d) = sym (pow-add 2 d d) ∙ ap (λ (n : ℕ). 2 ^ n) (twice d) in
    let s = mod-lt b (pow_pos d) in
    let x = crossed t l P b e s in
    record {
      least = subst (λ (z : ℕ). t * t + 2 * t * l / P ≤ b * b / z) f
          (subst (λ (z : ℕ). t * t + 2 * t * l / P ≤ z * z / (P * P)) e (least t l P (pow_pos d)));
      most = subst (λ (z : ℕ). b * b / z ≤ t * t + 2 * t * l / P + 1) f
          (subst (λ (z : ℕ). z * z / (P * P) ≤ t * t + 2 * t * l / P + 1) e (most t l P (pow_pos d) s));
      cross = x;
      cross_part = le_trans (shr_le (2 * t * l) d) x;
    }

pub cut : (b d l : ℕ) → l ≡ b % 2 ^ d → Cut b d l
cut b d l e = subst (λ (x : ℕ). Cut b d x) (sym e) (at_rest b d)
