-- The order of floats of any format: what lies below another does not lie above it, and where one lies below another, every
-- third number is above the first or below the second. By cross multiplication.
use Prim.Native.Nat.{ℕ, ◌+◌, ◌*◌, ◌<◌, ◌≤◌}
use mathlib.Core.Bool.{Bool, true, false, not}
use mathlib.Core.Logic.{inl, inr, ◌⊎◌}
use mathlib.Core.Path.{◌≡◌, refl}
use native.Mathlib.Nat.{mul-le-mul_right, mul-lt-mul_of_pos_right, mul-pos}
use native.Mathlib.Omega.{arith}
use lib.Dec.{T, ltb→lt, lt→ltb}
use lib.Ieee.{Float, nan, inf, fin, below, down, is_nan, lt, up}
use lib.Ieee.Fits.{down_pos}
use Rattle.arith.specs.F64.{◌≺◌, ∞}
use Rattle.arith.proofs.roots.Numbers.{decide}

-- ---- of fractions X/a, Y/b and Z/c with signs
below_asym : (s t : Bool) (x y : ℕ) → T (below s x t y) → T (below t y s x) → ⊥
below_asym false false x y h k = omega (arith, ltb→lt x y h, ltb→lt y x k)
below_asym false true x y h k = h
below_asym true false x y h k = k
below_asym true true x y h k = omega (arith, ltb→lt y x h, ltb→lt x y k)

module _ (X Y Z a b c : ℕ) (A : 0 < a) (B : 0 < b) (C : 0 < c) where
  -- a factor of what is above 0
  factor : (x y z : ℕ) → 0 < z → 0 < x * y → 0 < x * z
  factor x y z Z h = elim (decide x 0) [ inl l ↦ absurd (none l) | inr l ↦ mul-pos l Z ]
    where
      none : x ≤ 0 → ⊥
      none l = omega (arith, h, mul-le-mul_right y l)

  -- X/a < Y/b, and not X/a < Z/c: then Z/c < Y/b
  third : X * b < Y * a → Z * a ≤ X * c → Z * b < Y * c
  third h k = elim (decide (Y * c) (Z * b)) [ inl l ↦ absurd (none l) | inr l ↦ l ]
    where
      none : Y * c ≤ Z * b → ⊥
      none l = omega (arith, mul-lt-mul_of_pos_right h C, mul-le-mul_right b k, mul-le-mul_right a l)

  -- the same of what is negative
  third_negative : Y * a < X * b → X * c ≤ Z * a → Y * c < Z * b
  third_negative h k = elim (decide (Z * b) (Y * c)) [ inl l ↦ absurd (none l) | inr l ↦ l ]
    where
      none : Z * b ≤ Y * c → ⊥
      none l = omega (arith, mul-lt-mul_of_pos_right h C, mul-le-mul_right b k, mul-le-mul_right a l)

  abbrev Apart : Bool → Bool → Bool → Type 0
  Apart s t u = T (below s (X * c) u (Z * a)) ⊎ T (below u (Z * b) t (Y * c))

  fractions_apart : (s t u : Bool) → T (below s (X * b) t (Y * a)) → Apart s t u
  fractions_apart false false false h =
      elim (decide (Z * a) (X * c)) [
        | inl k ↦ inr (lt→ltb (Z * b) (Y * c) (third (ltb→lt (X * b) (Y * a) h) k))
        | inr k ↦ inl (lt→ltb (X * c) (Z * a) k)
      ]
  fractions_apart false false true h =
      let p : 0 < Y * a = omega (arith, ltb→lt (X * b) (Y * a) h) in
      inr (lt→ltb 0 (Z * b + Y * c) (omega (arith, factor Y a c C p)))
  fractions_apart false true u h = absurd h
  fractions_apart true false false h =
      elim (decide (X * c + Z * a) 0) [
        | inl k ↦ inr (lt→ltb (Z * b) (Y * c) (alone k (ltb→lt 0 (X * b + Y * a) h)))
        | inr k ↦ inl (lt→ltb 0 (X * c + Z * a) k)
      ]
    where
      alone : X * c + Z * a ≤ 0 → 0 < X * b + Y * a → Z * b < Y * c
      alone k h = third (elim (decide (X * b) 0) [
        | inl l ↦ omega (arith, h, l)
        | inr l ↦ absurd (let p = factor X b c C l in omega (arith, p, k))
      ]) (omega (arith, k))
  fractions_apart true false true h =
      elim (decide (Z * b + Y * c) 0) [
        | inl k ↦ inl (lt→ltb (Z * a) (X * c) (alone k (ltb→lt 0 (X * b + Y * a) h)))
        | inr k ↦ inr (lt→ltb 0 (Z * b + Y * c) k)
      ]
    where
      alone : Z * b + Y * c ≤ 0 → 0 < X * b + Y * a → Z * a < X * c
      alone k h =
          elim (decide (Z * a) 0) [
            | inl l ↦ elim (decide (X * c) 0) [
              | inl m ↦ absurd (elim (decide (X * b) 0) [
                | inl n ↦ let p : 0 < Y * a = omega (arith, h, n) in let q = factor Y a c C p in omega (arith, q, k)
                | inr n ↦ let q = factor X b c C n in omega (arith, q, m)
              ])
              | inr m ↦ omega (arith, l, m)
            ]
            | inr l ↦ absurd (let q = factor Z a b B l in omega (arith, q, k))
          ]
  fractions_apart true true false h =
      let p : 0 < X * b = omega (arith, ltb→lt (Y * a) (X * b) h) in
      inl (lt→ltb 0 (X * c + Z * a) (omega (arith, factor X b c C p)))
  fractions_apart true true true h =
      elim (decide (X * c) (Z * a)) [
        | inl k ↦ inr (lt→ltb (Y * c) (Z * b) (third_negative (ltb→lt (Y * a) (X * b) h) k))
        | inr k ↦ inl (lt→ltb (Z * a) (X * c) k)
      ]

-- ---- of floats
pub not_above : (x y : Float) → T (x ≺ y) → T (y ≺ x) → ⊥
unfolding lt
not_above nan y h k = h
not_above (inf s) nan h k = h
not_above (inf true) (inf true) h k = h
not_above (inf true) (inf false) h k = k
not_above (inf false) (inf t) h k = h
not_above (inf true) (fin t n d) h k = k
not_above (inf false) (fin t n d) h k = h
not_above (fin s m e) nan h k = h
not_above (fin s m e) (inf true) h k = h
not_above (fin s m e) (inf false) h k = k
not_above (fin s m e) (fin t n d) h k = below_asym s t (m * up e * down d) (n * up d * down e) h k

pub apart : (x y z : Float) → T (not (is_nan z)) → T (x ≺ y) → T (x ≺ z) ⊎ T (z ≺ y)
unfolding lt is_nan
apart x y nan p h = absurd p
apart nan y (inf u) p h = absurd h
apart nan y (fin u k g) p h = absurd h
apart (inf s) nan (inf u) p h = absurd h
apart (inf s) nan (fin u k g) p h = absurd h
apart (inf false) (inf t) (inf u) p h = absurd h
apart (inf false) (inf t) (fin u k g) p h = absurd h
apart (inf true) (inf true) (inf u) p h = absurd h
apart (inf true) (inf true) (fin u k g) p h = absurd h
apart (inf true) (inf false) (inf true) p h = inr tt
apart (inf true) (inf false) (inf false) p h = inl tt
apart (inf true) (inf false) (fin u k g) p h = inl tt
apart (inf false) (fin t n d) (inf u) p h = absurd h
apart (inf false) (fin t n d) (fin u k g) p h = absurd h
apart (inf true) (fin t n d) (inf true) p h = inr tt
apart (inf true) (fin t n d) (inf false) p h = inl tt
apart (inf true) (fin t n d) (fin u k g) p h = inl tt
apart (fin s m e) nan (inf u) p h = absurd h
apart (fin s m e) nan (fin u k g) p h = absurd h
apart (fin s m e) (inf true) (inf u) p h = absurd h
apart (fin s m e) (inf true) (fin u k g) p h = absurd h
apart (fin s m e) (inf false) (inf true) p h = inr tt
apart (fin s m e) (inf false) (inf false) p h = inl tt
apart (fin s m e) (inf false) (fin u k g) p h = inr tt
apart (fin s m e) (fin t n d) (inf true) p h = inr tt
apart (fin s m e) (fin t n d) (inf false) p h = inl tt
apart (fin s m e) (fin t n d) (fin u k g) p h =
    fractions_apart (m * up e) (n * up d) (k * up g) (down e) (down d) (down g) (down_pos e) (down_pos d) (down_pos g) s t u h

-- a number that is not below +infinity is +infinity
pub at_infinity : (x : Float) → T (not (is_nan x)) → (T (x ≺ ∞) → ⊥) → x ≡ ∞
unfolding lt is_nan
at_infinity nan p h = absurd p
at_infinity (inf true) p h = absurd (h tt)
at_infinity (inf false) p h = refl
at_infinity (fin s m e) p h = absurd (h tt)
