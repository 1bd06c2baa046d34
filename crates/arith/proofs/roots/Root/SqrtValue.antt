-- What `sqrt` of a value is, by its bits: normal, subnormal, zero, negative, infinite, NaN.
use Rattle.std.proofs.Common.{◌≡◌, ℕ, zero, suc, ◌+◌, ◌-◌, ◌*◌, ◌/◌, ◌%◌, ◌^◌, ◌<◌, ◌≤◌, Bool, true, false, T, sym, refl, ap, ◌∙◌, subst, inl, inr, lt_irrefl, mul_assoc, mul-pos, arith, pow_pos, pow-add}
use lib.Ieee.{binary64, down, fin, fits, Float, inf, is_nan, nan, of_bits, to_bits, up}
use lib.Ieee.Bits.{of_bits-to_bits}
use lib.Ieee.Exact.{HasValue}
use lib.Ieee.Fits.{down_pos}
use Rattle.arith.proofs.roots.Numbers.{decide}
use Rattle.arith.proofs.roots.Pattern.Bits.{bits_val, split}
use Rattle.arith.proofs.roots.Pattern.Special.{above_inf, minus_sign, plus_sign, is_nan_lem}
use Rattle.arith.specs.roots.Steps.{SqrtIs, SqrtOf}
use Rattle.arith.specs.roots.Roots.{root, sqrt}

-- ---- what `sqrt` says of a value
pub sqrt_val : (x : Float) (n : ℕ) → HasValue x false n (2 ^ 1074) → sqrt binary64 x ≡ root binary64 (n * 2 ^ 1074)
sqrt_val nan n h = absurd h
sqrt_val (inf s) n h = absurd h
sqrt_val (fin false m e) n h = unfold sqrt in ap (λ (z : ℕ). root binary64 (z * 2 ^ 1074))
    (ap (λ (z : ℕ). z / down e) h.1 ∙ native.Mathlib.Nat.mul-div_cancel n (down_pos e))
sqrt_val (fin true m e) n h = absurd (no h.0)
  where
    no : true ≡ false → ⊥
    no p = subst (λ (b : Bool). T b) p tt

of_value : (b n m e r : ℕ) → b < 2 ^ 63 → HasValue (of_bits binary64 b) false n (2 ^ 1074)
    → n * 2 ^ 1074 ≡ m * 2 ^ (e + 50) → SqrtIs m e r → SqrtOf b r
of_value b n m e r h v w s = record {
  fine = s.fine;
  is = sqrt_val (of_bits binary64 b) n v ∙ ap
      (λ (z : ℕ). root binary64 z) w ∙ s.is;
}

value_of : (b E m : ℕ) → b < 2 ^ 63 → b ≡ E * 2 ^ 52 + m → m < 2 ^ 53 → (0 < E → 2 ^ 52 ≤ m) → E < 2046
    → HasValue (of_bits binary64 b) false (m * 2 ^ E) (2 ^ 1074)
value_of b E m h w s n r = subst (λ (t : Bool). HasValue (of_bits binary64 b) t (m * 2 ^ E) (2 ^ 1074)) (plus_sign b h)
    (bits_val b E m (let k : b % 2 ^ 63 ≡ E * 2 ^ 52 + m = omega arith in k) s n r)

pub normal_sqrt : (b r : ℕ) → 2 ^ 52 ≤ b → b < 2047 * 2 ^ 52 → SqrtIs (b % 2 ^ 52 + 2 ^ 52) (b / 2 ^ 52 + 1023) r
    → SqrtOf b r
normal_sqrt b r l h s =
    let m = b % 2 ^ 52 + 2 ^ 52 in
    let E = b / 2 ^ 52 - 1 in
    let e = b / 2 ^ 52 + 1023 in
    of_value b (m * 2 ^ E) m e r (omega arith) (value_of b E m (omega arith) (omega arith) (omega arith)
    (λ x. omega arith) (omega arith))
    (mul_assoc m (2 ^ E) (2 ^ 1074) ∙ ap (λ (z : ℕ). m * z) (sym (pow-add 2 E 1074) ∙ ap (λ (i : ℕ). 2 ^ i)
    (let k : E + 1074 ≡ e + 50 = omega arith in k))) s

pub small_sqrt : (b m e r : ℕ) → b < 2 ^ 52 → m * 2 ^ e ≡ b * 2 ^ 1024 → SqrtIs m e r → SqrtOf b r
small_sqrt b m e r h w s =
    of_value b (b * 2 ^ 0) m e r (omega arith) (value_of b 0 b (omega arith) (omega arith) (omega arith)
    (λ (x : 0 < 0). absurd (lt_irrefl 0 x)) (omega arith))
    (ap (λ (z : ℕ). z * 2 ^ 1074) (native.Mathlib.Nat.mul-one b) ∙ ap (λ (z : ℕ). b * z) (pow-add 2 1024 50) ∙ sym
    (mul_assoc b (2 ^ 1024) (2 ^ 50)) ∙ ap (λ (z : ℕ). z * 2 ^ 50) (sym w) ∙ mul_assoc m (2 ^ e) (2 ^ 50) ∙ ap
    (λ (z : ℕ). m * z) (sym (pow-add 2 e 50))) s

-- ---- x itself
pub sqrt_by_bits : (x : Float) (r : ℕ) → T (fits binary64 x) → SqrtOf (to_bits binary64 x) r
    → of_bits binary64 r ≡ sqrt binary64 x
sqrt_by_bits x r f s = sym s.is ∙ ap (λ (z : Float). sqrt binary64 z) (of_bits-to_bits binary64 x f)

pub sqrt_same : (x : Float) (b : ℕ) → T (fits binary64 x) → to_bits binary64 x ≡ b
    → sqrt binary64 (of_bits binary64 b) ≡ of_bits binary64 b → x ≡ sqrt binary64 x
sqrt_same x b f e s =
    let w : of_bits binary64 b ≡ x = ap (λ (z : ℕ). of_bits binary64 z) (sym e) ∙ of_bits-to_bits binary64 x f in
    sym w ∙ sym s ∙ ap (λ (z : Float). sqrt binary64 z) w

pub sqrt_fixed : (sqrt binary64 (of_bits binary64 0) ≡ of_bits binary64 0) ×
    (sqrt binary64 (of_bits binary64 (2047 * 2 ^ 52)) ≡ of_bits binary64 (2047 * 2 ^ 52)) ×
    (sqrt binary64 (of_bits binary64 (2 ^ 63)) ≡ of_bits binary64 (2 ^ 63))
unfolding sqrt of_bits
sqrt_fixed = (refl, refl, refl)

sqrt_negative : (x : Float) (n : ℕ) → HasValue x true n (2 ^ 1074) → 0 < n → sqrt binary64 x ≡ nan
unfolding sqrt
sqrt_negative nan n h p = absurd h
sqrt_negative (inf s) n h p = absurd h
sqrt_negative (fin false m e) n h p = absurd (no h.0)
  where
    no : false ≡ true → ⊥
    no p = subst (λ (b : Bool). T (mathlib.Core.Bool.not b)) p tt
sqrt_negative (fin true zero e) n h p = absurd (lt_irrefl 0 (subst (λ (z : ℕ). 0 < z)
    (sym h.1 ∙ ap (λ (z : ℕ). z * 2 ^ 1074) (native.Mathlib.Nat.zero-mul (up e)) ∙ native.Mathlib.Nat.zero-mul
    (2 ^ 1074)) (mul-pos p (down_pos e))))
sqrt_negative (fin true (suc m) e) n h p = refl

sqrt_nan : sqrt binary64 nan ≡ nan
unfolding sqrt
sqrt_nan = refl

sqrt_minus_inf : sqrt binary64 (of_bits binary64 (2 ^ 63 + 2047 * 2 ^ 52)) ≡ nan
unfolding sqrt of_bits
sqrt_minus_inf = refl

sqrt_none : (b : ℕ) → b < 2 ^ 64 → 2047 * 2 ^ 52 < b → (b ≡ 2 ^ 63 → ⊥) → sqrt binary64 (of_bits binary64 b) ≡ nan
sqrt_none b t h n = elim (decide (b % 2 ^ 63) (2047 * 2 ^ 52)) [
  | inr l ↦ ap (λ (z : Float). sqrt binary64 z) (above_inf b l) ∙ sqrt_nan
  | inl l ↦ elim (decide (2047 * 2 ^ 52) (b % 2 ^ 63)) [
    | inl k ↦ ap (λ (z : ℕ). sqrt binary64 (of_bits binary64 z)) (let w : b ≡ 2 ^ 63 + 2047 * 2 ^ 52 = omega arith in w)
        ∙ sqrt_minus_inf
    | inr k ↦
        let z = split (b % 2 ^ 63) k in
        let p : 0 < z.m = z.more (omega arith) in
        sqrt_negative (of_bits binary64 b) (z.m * 2 ^ z.E)
        (subst (λ (s : Bool). HasValue (of_bits binary64 b) s (z.m * 2 ^ z.E) (2 ^ 1074))
        (minus_sign b (omega arith)) (bits_val b z.E z.m z.whole z.short z.normal z.range))
        (mul-pos p (pow_pos z.E))
  ]
]

pub none : of_bits binary64 0x7ff8000000000000 ≡ nan
unfolding of_bits
none = refl

pub sqrt_no : (x : Float) → T (fits binary64 x) → to_bits binary64 x < 2 ^ 64 → 2047 * 2 ^ 52 < to_bits binary64 x
    → (to_bits binary64 x ≡ 2 ^ 63 → ⊥) → of_bits binary64 0x7ff8000000000000 ≡ sqrt binary64 x
sqrt_no x f t h n = none ∙ sym (sqrt_none (to_bits binary64 x) t h n) ∙ ap (λ (z : Float). sqrt binary64 z)
    (of_bits-to_bits binary64 x f)

pub sqrt_of_nan : (x : Float) → is_nan x ≡ true → of_bits binary64 0x7ff8000000000000 ≡ sqrt binary64 x
sqrt_of_nan x h = none ∙ sym sqrt_nan ∙ ap (λ (z : Float). sqrt binary64 z) (sym (is_nan_lem x (subst T (sym h) tt)))
