-- The bits of binary64 and the values that they stand for, in units of the smallest value.
use Rattle.std.proofs.Common.{◌≡◌, ℕ, zero, suc, ◌+◌, ◌-◌, ◌*◌, ◌/◌, ◌%◌, ◌^◌, ◌<◌, ◌≤◌, Bool, true, false, cond, T, eqb, ltb, leb, sym, refl, ap, ◌∙◌, subst, inl, inr, le_trans, le_of_eq, le_refl, lt_of_lt_of_le, lt_of_le_of_lt, mul-le-mul_right, not-le_of_lt, mul-div_cancel, arith, lit<, eqb→eq, ltb→lt, lt→ltb, pow_mono, pow-add, shl_lt}
use lib.Ieee.{binary64, down, fin, Float, inf, nan, odd, of_bits, of_fields, size, to_bits, units}
use lib.Ieee.Bits.{of_bits-to_bits}
use lib.Ieee.Digits.{size-le}
use lib.Ieee.Exact.{HasValue, odd_sign}
use lib.Ieee.Fits.{down_pos, odd-fits}
use lib.Pow.{pow-lt, shl-shr}
use Rattle.arith.proofs.roots.Numbers.{decide}
use Rattle.arith.proofs.roots.Root.Digits.{size_ge}

-- ---- what a pattern stands for
small_val : (s : Bool) (t : ℕ) → HasValue (of_fields binary64 s 0 t) s (t * 2 ^ 0) (2 ^ 1074)
unfolding of_fields
small_val s t = odd_sign 53 s t 0 1074

normal_val : (s : Bool) (x t : ℕ) → x < 2046
    → HasValue (of_fields binary64 s (suc x) t) s ((2 ^ 52 + t) * 2 ^ x) (2 ^ 1074)
unfolding of_fields
normal_val s x t h = go (eqb (suc x) 2047) (eqb→eq (suc x) 2047)
  where
    go : (b : Bool) → (T b → suc x ≡ 2047)
        → HasValue (cond b (cond (eqb t 0) (inf s) nan) (odd 53 s (2 ^ 52 + t) x 1074)) s ((2 ^ 52 + t) * 2 ^ x)
        (2 ^ 1074)
    go true e = let z : ⊥ = omega (arith, e tt) in absurd z
    go false e = odd_sign 53 s (2 ^ 52 + t) x 1074

pub bits_val : (b E m : ℕ) → b % 2 ^ 63 ≡ E * 2 ^ 52 + m → m < 2 ^ 53 → (0 < E → 2 ^ 52 ≤ m) → E < 2046
    → HasValue (of_bits binary64 b) (leb (2 ^ 63) b) (m * 2 ^ E) (2 ^ 1074)
unfolding of_bits
bits_val b E m e M n l = elim (decide (2 ^ 52) m) [
  | inl h ↦
      let x : b % 2 ^ 63 / 2 ^ 52 ≡ suc E = omega arith in
      let t : 2 ^ 52 + b % 2 ^ 52 ≡ m = omega arith in
      subst (λ (z : ℕ). HasValue (of_fields binary64 (leb (2 ^ 63) b) z (b % 2 ^ 52)) (leb (2 ^ 63) b) (m * 2 ^ E)
      (2 ^ 1074)) (sym x)
      (subst (λ (z : ℕ). HasValue (of_fields binary64 (leb (2 ^ 63) b) (suc E) (b % 2 ^ 52)) (leb (2 ^ 63) b) (z * 2 ^ E)
      (2 ^ 1074)) t (normal_val (leb (2 ^ 63) b) E (b % 2 ^ 52) l))
  | inr h ↦
      let z : E ≡ 0 = zero_of E m n h in
      let x : b % 2 ^ 63 / 2 ^ 52 ≡ 0 = omega arith in
      let t : b % 2 ^ 52 ≡ m = omega arith in
      subst (λ (z : ℕ). HasValue (of_fields binary64 (leb (2 ^ 63) b) z (b % 2 ^ 52)) (leb (2 ^ 63) b) (m * 2 ^ E)
      (2 ^ 1074)) (sym x)
      (subst (λ (y : ℕ). HasValue (of_fields binary64 (leb (2 ^ 63) b) 0 (b % 2 ^ 52)) (leb (2 ^ 63) b) (m * 2 ^ y)
      (2 ^ 1074)) (sym z)
      (subst (λ (y : ℕ). HasValue (of_fields binary64 (leb (2 ^ 63) b) 0 (b % 2 ^ 52)) (leb (2 ^ 63) b) (y * 2 ^ 0)
      (2 ^ 1074)) t (small_val (leb (2 ^ 63) b) (b % 2 ^ 52))))
]
  where
    zero_of : (E m : ℕ) → (0 < E → 2 ^ 52 ≤ m) → m < 2 ^ 52 → E ≡ 0
    zero_of zero m n h = refl
    zero_of (suc E) m n h = absurd (not-le_of_lt h (n (native.Mathlib.Nat.zero-lt-suc E)))

-- ---- the pattern of a value
abbrev bits_of : ℕ → ℕ
bits_of n = (size n - 53) * 2 ^ 52 + n / 2 ^ (size n - 53)

to_bits_val : (x : Float) (n : ℕ) → HasValue x false n (2 ^ 1074) → to_bits binary64 x ≡ bits_of n
unfolding to_bits
to_bits_val nan n h = absurd h
to_bits_val (inf s) n h = absurd h
to_bits_val (fin s m e) n h =
    ap (λ (z : ℕ). cond s (2 ^ 63) 0 + (size z - 53) * 2 ^ 52 + z / 2 ^ (size z - 53))
    (ap (λ (z : ℕ). z / down e) h.1 ∙ mul-div_cancel n (down_pos e))
    ∙ ap (λ (t : Bool). cond t (2 ^ 63) 0 + (size n - 53) * 2 ^ 52 + n / 2 ^ (size n - 53)) h.0
    ∙ plain ((size n - 53) * 2 ^ 52) (n / 2 ^ (size n - 53))
  where
    plain : (a b : ℕ) → 0 + a + b ≡ a + b
    plain a b = omega arith

pat_normal : (K E : ℕ) → 2 ^ 52 ≤ K → K < 2 ^ 53 → bits_of (K * 2 ^ E) ≡ E * 2 ^ 52 + K
pat_normal K E l h =
    let n = K * 2 ^ E in
    let a : size n ≤ 53 + E = size-le n (53 + E) (shl_lt 53 E h) in
    let b : 52 + E < size n = size_ge n (52 + E) (le_trans (le_of_eq (pow-add 2 52 E)) (mul-le-mul_right (2 ^ E) l)) in
    let e : size n - 53 ≡ E = omega arith in
    ap (λ (k : ℕ). k * 2 ^ 52 + n / 2 ^ k) e ∙ ap (λ (k : ℕ). E * 2 ^ 52 + k) (shl-shr K E)

pat_small : (K : ℕ) → K < 2 ^ 53 → bits_of (K * 2 ^ 0) ≡ 0 * 2 ^ 52 + K
pat_small K h =
    let n = K * 2 ^ 0 in
    let a : size n ≤ 53 + 0 = size-le n (53 + 0) (shl_lt 53 0 h) in
    let e : size n - 53 ≡ 0 = omega arith in
    ap (λ (k : ℕ). k * 2 ^ 52 + n / 2 ^ k) e ∙ ap (λ (k : ℕ). 0 * 2 ^ 52 + k) (shl-shr K 0)

pat_top : (E : ℕ) → bits_of (2 ^ 53 * 2 ^ E) ≡ E * 2 ^ 52 + 2 ^ 53
pat_top E =
    ap bits_of (sym (pow-add 2 53 E) ∙ ap (λ (i : ℕ). 2 ^ i) (let w : 53 + E ≡ 52 + suc E = omega arith in w) ∙ pow-add 2
    52 (suc E))
    ∙ pat_normal (2 ^ 52) (suc E) (le_refl (2 ^ 52)) (lit< tt)
    ∙ again E
  where
    again : (E : ℕ) → suc E * 2 ^ 52 + 2 ^ 52 ≡ E * 2 ^ 52 + 2 ^ 53
    again E = omega arith

pat_is : (K E : ℕ) → K ≤ 2 ^ 53 → (0 < E → 2 ^ 52 ≤ K) → bits_of (K * 2 ^ E) ≡ E * 2 ^ 52 + K
pat_is K zero h n = elim (decide (2 ^ 53) K) [
  | inl l ↦ subst (λ (z : ℕ). bits_of (z * 2 ^ 0) ≡ 0 * 2 ^ 52 + z) (let w : 2 ^ 53 ≡ K = omega arith in w) (pat_top 0)
  | inr l ↦ pat_small K l
]
pat_is K (suc E) h n = elim (decide (2 ^ 53) K) [
  | inl l ↦ subst (λ (z : ℕ). bits_of (z * 2 ^ suc E) ≡ suc E * 2 ^ 52 + z) (let w : 2 ^ 53 ≡ K = omega arith in w)
      (pat_top (suc E))
  | inr l ↦ pat_normal K (suc E) (n (native.Mathlib.Nat.zero-lt-suc E)) l
]

-- ---- a number of units, as a pattern
in_range : (K E : ℕ) → K ≤ 2 ^ 53 → (0 < E → 2 ^ 52 ≤ K) → E * 2 ^ 52 + K < 2047 * 2 ^ 52 → K * 2 ^ E < 2 ^ 2098
in_range K E h n l = elim (decide 2045 E) [
  | inl p ↦
      let q = n (omega arith) in
      let k : K < 2 ^ 53 = omega arith in
      lt_of_lt_of_le (shl_lt 53 E k) (pow_mono (let w : 53 + E ≤ 2098 = omega arith in w))
  | inr p ↦ lt_of_le_of_lt (mul-le-mul_right (2 ^ E) h) (lt_of_le_of_lt (le_of_eq (sym (pow-add 2 53 E)))
      (pow-lt (let w : 53 + E < 2098 = omega arith in w)))
]

out_of_range_lem : (K E : ℕ) → K ≤ 2 ^ 53 → (0 < E → 2 ^ 52 ≤ K) → 2047 * 2 ^ 52 ≤ E * 2 ^ 52 + K → 2 ^ 2098 ≤ K * 2 ^ E
out_of_range_lem K E h n l = elim (decide 2046 E) [
  | inl p ↦
      let q = n (omega arith) in
      le_trans (pow_mono (let w : 2098 ≤ 52 + E = omega arith in w))
      (le_trans (le_of_eq (pow-add 2 52 E)) (mul-le-mul_right (2 ^ E) q))
  | inr p ↦
      let k : 2 ^ 53 ≤ K = omega arith in
      le_trans (pow_mono (let w : 2098 ≤ 53 + E = omega arith in w))
      (le_trans (le_of_eq (pow-add 2 53 E)) (mul-le-mul_right (2 ^ E) k))
]

units_in : (K E : ℕ) → K * 2 ^ E < 2 ^ 2098 → units binary64 false K E ≡ odd 54 false K E 1074
unfolding units
units_in K E h = go (ltb (K * 2 ^ E) (2 ^ 2098)) (lt→ltb (K * 2 ^ E) (2 ^ 2098) h)
  where
    go : (b : Bool) → T b → cond b (odd 54 false K E 1074) (inf false) ≡ odd 54 false K E 1074
    go true t = refl
    go false t = absurd t

units_out : (K E : ℕ) → 2 ^ 2098 ≤ K * 2 ^ E → units binary64 false K E ≡ inf false
unfolding units
units_out K E h = go (ltb (K * 2 ^ E) (2 ^ 2098)) (ltb→lt (K * 2 ^ E) (2 ^ 2098))
  where
    go : (b : Bool) → (T b → K * 2 ^ E < 2 ^ 2098) → cond b (odd 54 false K E 1074) (inf false) ≡ inf false
    go true t = absurd (not-le_of_lt (t tt) h)
    go false t = refl

pub units_bits : (K E : ℕ) → K ≤ 2 ^ 53 → (0 < E → 2 ^ 52 ≤ K) → E * 2 ^ 52 + K < 2047 * 2 ^ 52
    → units binary64 false K E ≡ of_bits binary64 (E * 2 ^ 52 + K)
units_bits K E h n l =
    let r = in_range K E h n l in
    let x = odd 54 false K E 1074 in
    units_in K E r
    ∙ sym (of_bits-to_bits binary64 x (odd-fits binary64 54 false K E (lt_of_le_of_lt h (lit< tt)) h r))
    ∙ ap (λ (z : ℕ). of_bits binary64 z) (to_bits_val x (K * 2 ^ E) (odd_sign 54 false K E 1074) ∙ pat_is K E h n)

pub units_over : (K E : ℕ) → K ≤ 2 ^ 53 → (0 < E → 2 ^ 52 ≤ K) → 2047 * 2 ^ 52 ≤ E * 2 ^ 52 + K
    → units binary64 false K E ≡ inf false
units_over K E h n l = units_out K E (out_of_range_lem K E h n l)

-- ---- a pattern of a finite value, taken apart
pub record Split (p : ℕ) : Type 0 where
  pub E : ℕ
  pub m : ℕ
  pub whole : p ≡ E * 2 ^ 52 + m
  pub short : m < 2 ^ 53
  pub normal : 0 < E → 2 ^ 52 ≤ m
  pub range : E < 2046
  pub more : 0 < p → 0 < m

pub split : (p : ℕ) → p < 2047 * 2 ^ 52 → Split p
split p h = elim (decide (2 ^ 52) p) [
  | inl l ↦ record {
    E = p / 2 ^ 52 - 1;
    m = p % 2 ^ 52 + 2 ^ 52;
    whole = omega arith;
    short = omega arith;
    normal =
        λ x. omega arith;
    range = omega arith;
    more = λ x. omega arith;
  }
  | inr l ↦ record {
    E = 0;
    m = p;
    whole = omega arith;
    short = omega arith;
    normal = λ x. omega arith;
    range = omega
        arith;
    more = λ x. omega arith;
  }
]
