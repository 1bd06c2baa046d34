-- Each coordinate is exact: a whole number of sixty-fourths, 1,048,576 of them at most either way, and a zero is +0. The
-- subtraction and the division round fractions that the format holds. So the reader takes every coordinate, and no radius is
-- below 0.
use Prim.Native.Nat.{ℕ, ◌+◌, ◌-◌, ◌*◌, ◌%◌, ◌^◌, ◌<◌, ◌≤◌}
use native.Mathlib.Nat.{lt_of_lt_of_le, mul_assoc, mul-le-mul_right, mul-lt-mul_of_pos_right, mul-pos}
use native.Mathlib.Omega.{arith}
use mathlib.Core.Bool.{Bool, true, false, not, cond, true≢false}
use mathlib.Core.Path.{◌≡◌, refl, sym, ap}
use lib.Dec.{T, ltb, lit<, lit≤, le→leb}
use lib.IntN.{pos}
use lib.Pow.{shl_lt, pow_mono}
use lib.Ieee.{Float, nan, inf, fin, Format, binary64, prec, up, down, unlike, round, sub, add, neg, sum, div, lt, of_int, of_bits}
use lib.Ieee.{fits, is_nan, in_float}
use lib.Ieee.Exact.{HasValue, round_exact}
use lib.Ieee.Back.{round_whole}
use lib.Ieee.Fits.{down_pos, div-fits, neg-fits, cond-fits}
use lib.Ieee.Scale.{round_same}
use borrow.Author.Tests.{ltb-true, ltb-false, lt-ltb, le-ltb}
use Rattle.arith.specs.F64.{◌⊖◌, ◌⊘◌, ◌≺◌, 𝟘, e_9, limit}
use Rattle.arith.specs.Num.{abs, is_finite}
use Rattle.section.proofs.profile.Refusals.Passed.{NumberTaken}
use Rattle.loads.specs.Load.{middle, sixty_four, coordinate}

-- x is `many` sixty-fourths, at most 16,384 in magnitude; no zero is negative
pub record Sixtyfourths (negative : Bool) (x : Float) : Type 0 where
  pub many : ℕ
  pub exact : HasValue x negative many 64
  pub within : many ≤ 1048576
  pub signed : negative ≡ true → 0 < many

-- ---- a difference of whole numbers
-- how far a lies from b
abbrev pub apart : ℕ → ℕ → ℕ
apart a b = cond (ltb a b) (b - a) (a - b)

-- a and b stand as fractions A / C and B / C
module _
    (f : Format) (a b A B C : ℕ) (C-pos : 0 < C) (A-is : A ≡ a * C) (B-is : B ≡ b * C) (a_small : a ≤ 2 ^ prec f)
    (b-small : b ≤ 2 ^ prec f)
  where
    above : b ≤ a → HasValue (sum f false A true B C) false (a - b) 1
    unfolding sum
    above h =
        let k = a - b in
        let split : a ≡ b + k = omega arith in
        let order : b * C ≤ a * C = mul-le-mul_right C h in
        let left : (A - B) * 1 ≡ k * C = omega (arith, A-is, B-is, ap (λ (z : ℕ). z * C) split) in
        let same = round_same f false (A - B) C k 1 C-pos (omega arith) left in
        rw (le-ltb A B (omega (arith, A-is, B-is, order)), same) (round_whole f false k (omega (arith, a_small)))

    below : a < b → HasValue (sum f false A true B C) true (b - a) 1
    unfolding sum
    below h =
        let k = b - a in
        let split : b ≡ a + k = omega arith in
        let order : a * C < b * C = mul-lt-mul_of_pos_right h C-pos in
        let left : (B - A) * 1 ≡ k * C = omega (arith, A-is, B-is, ap (λ (z : ℕ). z * C) split) in
        let same = round_same f true (B - A) C k 1 C-pos (omega arith) left in
        rw (lt-ltb A B (omega (arith, A-is, B-is, order)), same) (round_whole f true k (omega (arith, b-small)))

    difference : HasValue (sum f false A true B C) (ltb a b) (apart a b) 1
    difference = go (ltb a b) refl
      where
        go : (t : Bool) → ltb a b ≡ t → HasValue (sum f false A true B C) t (cond t (b - a) (a - b)) 1
        go true e = below (ltb-true a b e)
        go false e = above (ltb-false a b e)

less_middle :
    (a : ℕ) (x : Float) → HasValue x false a 1 → a ≤ 2 ^ 53
    → HasValue (x ⊖ middle) (ltb a 1048576) (apart a 1048576) 1
unfolding sub add neg of_bits
less_middle a nan v h = absurd v
less_middle a (inf s) v h = absurd v
less_middle a (fin s m e) v h =
    rw v.0 (difference binary64 a 1048576 (m * up e * 1) (1048576 * down e) (down e * 1)
    (let p = down_pos e in omega arith) (omega (arith, v.1)) (omega arith) h (lit≤ tt))

-- what is cast to f64
pub whole_float : (n : ℕ) → n ≤ 2 ^ 53 → T (in_float binary64 (pos n))
unfolding in_float
whole_float n h = le→leb n (2 ^ 53) h

-- ---- the quotient by 64
quotient : (s : Bool) (a : ℕ) → a ≤ 1048576 → HasValue (round binary64 s a 64) s a 64
quotient s a h =
    let small : a < 2 ^ 53 = omega arith in
    round_exact binary64 s a 64 a 1068 (lit< tt) small
    (lt_of_lt_of_le (shl_lt 53 1068 small) (pow_mono {i = 53 + 1068} {j = 1074 + 1024} (lit≤ tt)))
    (sym (mul_assoc a (2 ^ 1068) 64))

over_sixty_four : (s : Bool) (a : ℕ) (x : Float) → HasValue x s a 1 → a ≤ 1048576 → HasValue (x ⊘ sixty_four) s a 64
unfolding div of_bits
over_sixty_four s a nan v h = absurd v
over_sixty_four s a (inf t) v h = absurd v
over_sixty_four s a (fin t m e) v h = rw v.0 (go s)
  where
    like : (s : Bool) → unlike s false ≡ s
    like true = refl
    like false = refl

    go : (s : Bool) → HasValue (round binary64 (unlike s false) (m * up e * 1) (64 * down e)) s a 64
    go s =
        let p = down_pos e in
        let cross : m * up e * 1 * 64 ≡ a * (64 * down e) = omega (arith, ap (λ (z : ℕ). z * 64) v.1) in
        rw (like s, round_same binary64 s (m * up e * 1) (64 * down e) a 64 (omega arith) (omega arith) cross) (quotient s a h)

-- ---- a coordinate
apart_within : (a b : ℕ) → a ≤ b + b → apart a b ≤ b
apart_within a b h = go (ltb a b) refl
  where
    go : (t : Bool) → ltb a b ≡ t → cond t (b - a) (a - b) ≤ b
    go true e = omega arith
    go false e = omega arith

apart_some : (a b : ℕ) → ltb a b ≡ true → 0 < apart a b
apart_some a b e = let h = ltb-true a b e in rw e (omega arith)

-- its exact value, by whole numbers: the state's remainder less 1,048,576, in sixty-fourths
pub coordinate_exact :
    (state : ℕ) → let m = state % 2097153 in HasValue (coordinate state) (ltb m 1048576) (apart m 1048576) 64
unfolding coordinate of_int
coordinate_exact state =
    let m = state % 2097153 in
    let small : m ≤ 2097152 = omega arith in
    over_sixty_four (ltb m 1048576) (apart m 1048576) (of_int binary64 (pos m) ⊖ middle)
    (less_middle m (of_int binary64 (pos m)) (round_whole binary64 false m (omega arith)) (omega arith))
    (apart_within m 1048576 (omega arith))

pub coordinate_ranged : (state : ℕ) → Sixtyfourths (ltb (state % 2097153) 1048576) (coordinate state)
coordinate_ranged state =
    let m = state % 2097153 in
    record {
      many = apart m 1048576;
      exact = coordinate_exact state;
      within = apart_within m 1048576 (omega arith);
      signed = apart_some m 1048576;
    }

-- ---- against 0, the limit and -1e-9
not_below : (k : ℕ) (x : Float) → HasValue x false k 64 → (x ≺ 𝟘) ≡ false
unfolding lt of_bits
not_below k nan v = absurd v
not_below k (inf s) v = absurd v
not_below k (fin s m e) v = rw v.0 (le-ltb (m * up e * 1) (0 * 1 * down e) (omega arith))

below_zero : (k : ℕ) (x : Float) → HasValue x true k 64 → 0 < k → (x ≺ 𝟘) ≡ true
unfolding lt of_bits
below_zero k nan v h = absurd v
below_zero k (inf s) v h = absurd v
below_zero k (fin s m e) v h =
    let p : 0 < k * down e = mul-pos h (down_pos e) in
    rw v.0 (lt-ltb 0 (m * up e * 1 + 0 * 1 * down e) (omega (arith, v.1)))

turned : (k : ℕ) (x : Float) → HasValue x true k 64 → HasValue (neg x) false k 64
unfolding neg
turned k nan v = absurd v
turned k (inf s) v = absurd v
turned k (fin s m e) v = (rw v.0, v.1)

-- a radius loses its sign
pub unsigned : (s : Bool) (x : Float) → Sixtyfourths s x → Sixtyfourths false (abs x)
unsigned true x X =
    rw (below_zero X.many x X.exact (X.signed refl))
    (record {
      many = X.many;
      exact = turned X.many x X.exact;
      within = X.within;
      signed = λ e. absurd (true≢false (sym e));
    })
unsigned false x X = rw (not_below X.many x X.exact) X

pub radius_ranged : (state : ℕ) → Sixtyfourths false (abs (coordinate state))
radius_ranged state = unsigned (ltb (state % 2097153) 1048576) (coordinate state) (coordinate_ranged state)

not_over : (k : ℕ) (x : Float) → HasValue x false k 64 → k ≤ 1048576 → (limit ≺ x) ≡ false
unfolding lt of_bits
not_over k nan v h = absurd v
not_over k (inf s) v h = absurd v
not_over k (fin s m e) v h =
    let most : k * down e ≤ 1048576 * down e = mul-le-mul_right (down e) h in
    rw v.0 (le-ltb (1048576 * down e) (m * up e * 1) (omega (arith, v.1, most)))

finite_of : (s : Bool) (k : ℕ) (x : Float) → HasValue x s k 64 → is_finite x ≡ true
unfolding is_finite
finite_of s k nan v = absurd v
finite_of s k (inf t) v = absurd v
finite_of s k (fin t m e) v = refl

pub number_taken : (s : Bool) (x : Float) → Sixtyfourths s x → NumberTaken x
number_taken s x X =
    let Y = unsigned s x X in
    record {
      finite = rw (finite_of s X.many x X.exact) tt;
      small = rw (not_over Y.many (abs x) Y.exact Y.within) tt;
    }

above_axis : (k : ℕ) (x : Float) → HasValue x false k 64 → (x ≺ neg e_9) ≡ false
unfolding lt of_bits neg
above_axis k nan v = absurd v
above_axis k (inf s) v = absurd v
above_axis k (fin s m e) v = rw v.0

-- no radius is below 0, nor below -1e-9
pub radius_above : (x : Float) → Sixtyfourths false x → ((x ≺ 𝟘) ≡ false) × ((x ≺ neg e_9) ≡ false)
radius_above x X = (not_below X.many x X.exact, above_axis X.many x X.exact)

-- ---- their bits
pub coordinate_fits : (state : ℕ) → T (fits binary64 (coordinate state))
unfolding coordinate
coordinate_fits state = div-fits binary64 (of_int binary64 (pos (state % 2097153)) ⊖ middle) sixty_four

pub radius_fits : (state : ℕ) → T (fits binary64 (abs (coordinate state)))
radius_fits state =
    let x = coordinate state in
    cond-fits binary64 (x ≺ 𝟘) (neg x) x (neg-fits binary64 x (coordinate_fits state)) (coordinate_fits state)

pub no_nan : (s : Bool) (x : Float) → Sixtyfourths s x → T (not (is_nan x))
unfolding is_nan
no_nan s nan X = X.exact
no_nan s (inf t) X = tt
no_nan s (fin t m e) X = tt
