-- THE ROOT IS NEAREST: among all numbers of the format none is nearer to the exact root, and at a tie it is even. An infinity stands
-- for the first power of two past the range, as in IEEE 754's rounding; so overflow is covered too.
use Rattle.std.proofs.Common.{◌≡◌, ℕ, zero, suc, ◌+◌, ◌-◌, ◌*◌, ◌%◌, ◌^◌, ◌<◌, ◌≤◌, min, Bool, true, false, cond, T, ltb, ◌⊎◌, sym, refl, ap, ◌∙◌, subst, inl, inr, le_trans, le_of_eq, lt_of_lt_of_le, lt_of_le_of_lt, zero-lt-suc, mul-le-mul, one-mul, zero-add, arith, pow-add}
use lib.Ieee.{emax, fin, Float, Format, inf, low, nan, odd, prec, units}
use lib.Ieee.Fits.{and_l, and_i, reach}
use lib.Ieee.Order.{drop, kept}
use lib.Pow.{pow-lt}
use Rattle.arith.proofs.roots.Numbers.{decide}
use Rattle.arith.proofs.Laws.RootKey.{root_key, root_number}
use Rattle.arith.proofs.roots.Root.Sticky.{ge_sticky_root, le_sticky_root, sticky_root, sticky_root_ge, sticky_root_le}
use Rattle.arith.proofs.roots.Rounding.Fraction.{kept_ge, kept_le, rounded}
use Rattle.arith.proofs.roots.Rounding.Key.{key, key_is, magnitude, magnitude_le, mid, mid_pos, negative, number}
use Rattle.arith.proofs.roots.Rounding.Key.{prec_pos, representable_of, side}
use Rattle.arith.proofs.roots.Rounding.Nearest.{rounded_nearest_above, rounded_nearest_below, rounded_tie_even}
use Rattle.arith.proofs.roots.Rounding.RoundKey.{round_key_side}
use Rattle.arith.specs.roots.Steps.{sq}
use Rattle.arith.specs.roots.Roots.{root}

-- x's last digit is 0: its magnitude is q * 2 ^ j with 2 ^ j its last place and q even
pub record Even (f : Format) (x : Float) : Type 0 where
  pub q : ℕ
  pub j : ℕ
  pub value : magnitude f x ≡ q * 2 ^ j
  pub most : q ≤ 2 ^ prec f
  pub last_place : 0 < j → 2 ^ (prec f - 1) ≤ q
  pub even : q % 2 ≡ 0

-- x is the number of the format nearest the root of n, ties to even; x in smallest values, n in their squares. Squares are compared:
-- no other number w has the root on its own side of the middle of x and w.
pub record NearestRoot (f : Format) (n : ℕ) (x : Float) : Type 0 where
  pub is_number : T (number f x)
  pub plus : negative x ≡ false
  pub above : (w : Float) → T (number f w) → magnitude f x < magnitude f w → 4 * n ≤ sq (magnitude f x + magnitude f w)
  pub below : (w : Float) → T (number f w) → magnitude f w < magnitude f x → sq (magnitude f x + magnitude f w) ≤ 4 * n
  pub tie : (w : Float) → T (number f w) → (magnitude f x ≡ magnitude f w → ⊥)
      → 4 * n ≡ sq (magnitude f x + magnitude f w) → Even f x

-- the middle (t + w) / 2 of the rounded root t and any other number w of p digits is on the other side of the root from w
root_nearest_above : (p N q j : ℕ) → 0 < p → q < 2 ^ p → rounded p (sticky_root N) 4 < q * 2 ^ j
    → 4 * N ≤ (rounded p (sticky_root N) 4 + q * 2 ^ j) * (rounded p (sticky_root N) 4 + q * 2 ^ j)
root_nearest_above p N q j P Q h =
    let z = rounded_nearest_above p (sticky_root N) 4 P (zero-lt-suc 3) q j Q h in
    le_sticky_root N (rounded p (sticky_root N) 4 + q * 2 ^ j) (omega arith)

root_nearest_below : (p N q j : ℕ) → 0 < p → q < 2 ^ p → q * 2 ^ j < rounded p (sticky_root N) 4
    → (rounded p (sticky_root N) 4 + q * 2 ^ j) * (rounded p (sticky_root N) 4 + q * 2 ^ j) ≤ 4 * N
root_nearest_below p N q j P Q h =
    let z = rounded_nearest_below p (sticky_root N) 4 P (zero-lt-suc 3) q j Q h in
    ge_sticky_root N (rounded p (sticky_root N) 4 + q * 2 ^ j) (omega arith)

root_tie_even : (p N q j : ℕ) → 0 < p → q < 2 ^ p
    → (rounded p (sticky_root N) 4 < q * 2 ^ j) ⊎ (q * 2 ^ j < rounded p (sticky_root N) 4)
    → 4 * N ≡ (rounded p (sticky_root N) 4 + q * 2 ^ j) * (rounded p (sticky_root N) 4 + q * 2 ^ j)
    → kept p (sticky_root N) 4 % 2 ≡ 0
root_tie_even p N q j P Q h e =
    let s = rounded p (sticky_root N) 4 + q * 2 ^ j in
    let a : 2 * s ≤ sticky_root N = sticky_root_ge N s (le_of_eq (sym e)) in
    let b : sticky_root N ≤ 2 * s = sticky_root_le N s (le_of_eq e) in
    rounded_tie_even p (sticky_root N) 4 P (zero-lt-suc 3) q j Q h (omega arith)

-- the root's magnitude: the rounded sticky root, or infinity's from there on
root_magnitude : (f : Format) (n : ℕ) → magnitude f (root f n) ≡ min (mid f) (rounded (prec f) (sticky_root n) 4)
root_magnitude f n =
    let x = root f n in
    let e : key f x ≡ mid f + min (mid f) (rounded (prec f) (sticky_root n) 4) = root_key f n ∙ round_key_side f false
    (sticky_root n) (sticky_root n) 0 4 (zero-lt-suc 3) (sym (zero-add (sticky_root n))) in
    go (negative x) (mid f) (magnitude f x) (rounded (prec f) (sticky_root n) 4) (sym (key_is f x) ∙ e)
    (magnitude_le f x (root_number f n)) (mid_pos f)
  where
    go : (s : Bool) (M t v : ℕ) → side M s t ≡ M + min M v → t ≤ M → 0 < M → t ≡ min M v
    go false M t v e l p = omega arith
    go true M t v e l p = omega arith

odd_plus : (d q k l : ℕ) → negative (odd d false q k l) ≡ false
unfolding odd
odd_plus d zero k l = refl
odd_plus d (suc q) k l = refl

pub root_plus : (f : Format) (n : ℕ) → negative (root f n) ≡ false
unfolding root
root_plus f n = units_plus _ _
  where
    units_plus : (q k : ℕ) → negative (units f false q k) ≡ false
    units_plus q k = unfold units in go (ltb (q * 2 ^ k) (2 ^ (low f + suc (emax f))))
      where
        go : (b : Bool) → negative (cond b (odd (suc (prec f)) false q k (low f)) (inf false)) ≡ false
        go true = odd_plus (suc (prec f)) q k (low f)
        go false = refl

-- a number of the format as at most prec digits, an infinity too
record Digits (f : Format) (w : Float) : Type 0 where
  pub q : ℕ
  pub j : ℕ
  pub short : q < 2 ^ prec f
  pub value : magnitude f w ≡ q * 2 ^ j

digits_of : (f : Format) (w : Float) → T (number f w) → Digits f w
digits_of f nan h = absurd (not_nan h)
  where
    not_nan : T (number f nan) → ⊥
    not_nan h = unfold lib.Ieee.fits lib.Ieee.is_nan in h
digits_of f (inf s) h = record { q = 1; j = low f + suc (emax f); short = pow-lt (prec_pos f); value = top }
  where
    top : magnitude f (inf s) ≡ 1 * 2 ^ (low f + suc (emax f))
    top = unfold magnitude mid in sym (one-mul (2 ^ (low f + suc (emax f))))
digits_of f (fin s m e) h =
    let r = representable_of f (fin s m e) (and_i (lib.Ieee.fits f (fin s m e)) true
    (and_l (lib.Ieee.fits f (fin s m e)) (mathlib.Core.Bool.not (lib.Ieee.is_nan (fin s m e))) h) tt) in
    record { q = r.q; j = r.j; short = r.short; value = r.whole }

module _ (f : Format) (n : ℕ) where
  abbrev r : ℕ
  r = rounded (prec f) (sticky_root n) 4

  abbrev x : Float
  x = root f n

  root_above : (w : Float) → T (number f w) → magnitude f x < magnitude f w → 4 * n ≤ sq (magnitude f x + magnitude f w)
  root_above w p l =
      let d = digits_of f w p in
      let m : magnitude f x ≡ min (mid f) r = root_magnitude f n in
      let t : magnitude f w ≤ mid f = magnitude_le f w p in
      let e : magnitude f x ≡ r = omega arith in
      subst (λ (a : ℕ). 4 * n ≤ sq (a + magnitude f w)) (sym e)
      (subst (λ (b : ℕ). 4 * n ≤ sq (r + b)) (sym d.value)
      (root_nearest_above (prec f) n d.q d.j (prec_pos f) d.short
      (lt_of_le_of_lt (le_of_eq (sym e)) (lt_of_lt_of_le l (le_of_eq d.value)))))

  root_below : (w : Float) → T (number f w) → magnitude f w < magnitude f x → sq (magnitude f x + magnitude f w) ≤ 4 * n
  root_below w p l =
      let d = digits_of f w p in
      let m : magnitude f x ≡ min (mid f) r = root_magnitude f n in
      let a : magnitude f x + magnitude f w ≤ r + d.q * 2 ^ d.j = omega (arith, d.value) in
      le_trans (mul-le-mul a a)
      (root_nearest_below (prec f) n d.q d.j (prec_pos f) d.short (omega (arith, d.value)))

  -- from infinity on: 2 ^ prec steps of the largest last place
  even_top : mid f ≤ r → Even f x
  even_top h = record {
    q = 2 ^ prec f;
    j = low f + suc (emax f) - prec f;
    value = root_magnitude f n ∙ (let e : min (mid f) r ≡ mid f = omega arith in e) ∙ power;
    most = le_of_eq refl;
    last_place = λ z. lib.Pow.pow_mono (let e : prec f - 1 ≤ prec f = omega arith in e);
    even = halves (prec f) (prec_pos f);
  }
    where
      power : mid f ≡ 2 ^ prec f * 2 ^ (low f + suc (emax f) - prec f)
      power = unfold mid in ap (λ (i : ℕ). 2 ^ i) (sum (prec f) (low f) (emax f) (reach f))
          ∙ pow-add 2 (prec f) (low f + suc (emax f) - prec f)
        where
          sum : (p l e : ℕ) → p ≤ suc e → l + suc e ≡ p + (l + suc e - p)
          sum p l e h = omega arith

      halves : (p : ℕ) → 0 < p → 2 ^ p % 2 ≡ 0
      halves zero h = let c : ⊥ = omega arith in absurd c
      halves (suc p) h = omega (arith, native.Mathlib.Nat.two-pow-succ p)

  even_below : r < mid f → kept (prec f) (sticky_root n) 4 % 2 ≡ 0 → Even f x
  unfolding rounded
  even_below h e = record {
    q = kept (prec f) (sticky_root n) 4;
    j = drop (prec f) (sticky_root n) 4;
    value = root_magnitude f n ∙ (let e : min (mid f) r ≡ r = omega arith in e);
    most = kept_le (prec f) (sticky_root n) 4;
    last_place = kept_ge (prec f) (sticky_root n) 4 (prec_pos f);
    even = e;
  }

  sides : (a b : ℕ) → (a ≡ b → ⊥) → (a < b) ⊎ (b < a)
  sides a b h = elim (decide b a) [ inl l ↦ inr (lib.Arith.lt_of_le-ne l (λ e. h (sym e))) | inr l ↦ inl l ]

  root_tie : (w : Float) → T (number f w) → (magnitude f x ≡ magnitude f w → ⊥)
      → 4 * n ≡ sq (magnitude f x + magnitude f w) → Even f x
  root_tie w p ne t = elim (decide (mid f) r) [
    | inl h ↦ even_top h
    | inr h ↦
        let d = digits_of f w p in
        let e : magnitude f x ≡ r = root_magnitude f n ∙ (let c : min (mid f) r ≡ r = omega arith in c) in
        even_below h (root_tie_even (prec f) n d.q d.j (prec_pos f) d.short
        (sides r (d.q * 2 ^ d.j) (λ c. ne (e ∙ c ∙ sym d.value)))
        (t ∙ ap (λ (a : ℕ). sq (a + magnitude f w)) e ∙ ap (λ (b : ℕ). sq (r + b)) d.value))
  ]

  pub root_nearest : NearestRoot f n (root f n)
  root_nearest = record {
    is_number = root_number f n;
    plus = root_plus f n;
    above = root_above;
    below = root_below;
    tie = root_tie;
  }
