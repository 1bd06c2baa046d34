-- What `hypot` of two values is, by their bits: finite, infinite, NaN.
use Rattle.std.proofs.Common.{◌≡◌, ℕ, ◌+◌, ◌*◌, ◌/◌, ◌%◌, ◌^◌, ◌<◌, ◌≤◌, Bool, false, not, T, leb, sym, refl, ap, ◌∙◌, subst, inl, inr, mul-div_cancel, arith, true}
use Rattle.std.proofs.lemmas.Bool.{true≢false}
use Rattle.std.specs.Float.{float_is_infinite}
use lib.Ieee.{binary64, down, fin, fits, Float, inf, is_nan, nan, of_bits, of_fields, to_bits, up}
use lib.Ieee.Bits.{of_bits-to_bits}
use lib.Ieee.Exact.{HasValue}
use lib.Ieee.Fits.{down_pos}
use Rattle.arith.proofs.roots.Numbers.{decide}
use Rattle.arith.proofs.roots.Pattern.Bits.{bits_val}
use Rattle.arith.proofs.roots.Pattern.Special.{above_inf}
use Rattle.arith.proofs.roots.Root.HypotCore.{n, normal, short, ticks_of_is, whole}
use Rattle.arith.proofs.roots.Squares.{square}
use Rattle.arith.specs.roots.Steps.{exponent_of, HypotIs, significand_of, sq, ticks_of}
use Rattle.arith.specs.roots.Roots.{hypot, root}

-- ---- what `hypot` says of values
hypot_val : (x y : Float) (s t : Bool) (a b : ℕ) → HasValue x s a (2 ^ 1074) → HasValue y t b (2 ^ 1074)
    → hypot binary64 x y ≡ root binary64 (sq a + sq b)
unfolding hypot
hypot_val nan y s t a b h k = absurd h
hypot_val (inf u) y s t a b h k = absurd h
hypot_val (fin u m e) nan s t a b h k = absurd k
hypot_val (fin u m e) (inf v) s t a b h k = absurd k
hypot_val (fin u m e) (fin v n d) s t a b h k =
    let p : m * up e * 2 ^ 1074 / down e ≡ a = ap (λ (z : ℕ). z / down e) h.1 ∙ mul-div_cancel a (down_pos e) in
    let q : n * up d * 2 ^ 1074 / down d ≡ b = ap (λ (z : ℕ). z / down d) k.1 ∙ mul-div_cancel b (down_pos d) in
    ap (λ (z : ℕ). root binary64 (z ^ 2 + (n * up d * 2 ^ 1074 / down d) ^ 2)) p ∙ ap
    (λ (z : ℕ). root binary64 (a ^ 2 + z ^ 2)) q ∙ ap (λ (z : ℕ). root binary64 (z + b ^ 2)) (square a) ∙ ap
    (λ (z : ℕ). root binary64 (sq a + z)) (square b)

pub finite_val : (b : ℕ) → b % 2 ^ 63 < 2047 * 2 ^ 52
    → HasValue (of_bits binary64 b) (leb (2 ^ 63) b) (ticks_of (b % 2 ^ 63)) (2 ^ 1074)
finite_val b h = subst (λ (x : ℕ). HasValue (of_bits binary64 b) (leb (2 ^ 63) b) x (2 ^ 1074))
    (sym (ticks_of_is (b % 2 ^ 63))) (bits_val b (exponent_of (b % 2 ^ 63)) (significand_of (b % 2 ^ 63))
    (whole (b % 2 ^ 63)) (short (b % 2 ^ 63)) (normal (b % 2 ^ 63)) (omega arith))

value_of : (x : Float) → T (fits binary64 x) → to_bits binary64 x % 2 ^ 63 < 2047 * 2 ^ 52
    → HasValue x (leb (2 ^ 63) (to_bits binary64 x)) (ticks_of (to_bits binary64 x % 2 ^ 63)) (2 ^ 1074)
value_of x f h = subst (λ (z : Float). HasValue z (leb (2 ^ 63) (to_bits binary64 x))
    (ticks_of (to_bits binary64 x % 2 ^ 63)) (2 ^ 1074)) (of_bits-to_bits binary64 x f) (finite_val (to_bits binary64 x) h)

pub hypot_by_bits : (x y : Float) (r : ℕ) → T (fits binary64 x) → T (fits binary64 y)
    → to_bits binary64 x % 2 ^ 63 < 2047 * 2 ^ 52 → to_bits binary64 y % 2 ^ 63 < 2047 * 2 ^ 52
    → HypotIs (to_bits binary64 x % 2 ^ 63) (to_bits binary64 y % 2 ^ 63) r → of_bits binary64 r ≡ hypot binary64 x y
hypot_by_bits x y r f g h k s = sym s.is ∙ sym (hypot_val x y (leb (2 ^ 63) (to_bits binary64 x))
    (leb (2 ^ 63) (to_bits binary64 y)) (ticks_of (to_bits binary64 x % 2 ^ 63)) (ticks_of (to_bits binary64 y % 2 ^ 63))
    (value_of x f h) (value_of y g k))

-- ---- infinities and NaNs
inf_bits : (b : ℕ) → b % 2 ^ 63 ≡ 2047 * 2 ^ 52 → of_bits binary64 b ≡ inf (leb (2 ^ 63) b)
unfolding of_bits of_fields
inf_bits b h =
    let x : b % 2 ^ 63 / 2 ^ 52 ≡ 2047 = omega arith in
    let t : b % 2 ^ 52 ≡ 0 = omega arith in
    ap (λ (z : ℕ). of_fields binary64 (leb (2 ^ 63) b) z (b % 2 ^ 52)) x ∙ ap
    (λ (z : ℕ). of_fields binary64 (leb (2 ^ 63) b) 2047 z) t

contra : T (not (is_nan nan)) → ⊥
unfolding is_nan
contra h = h

is_inf : (x : Float) → T (fits binary64 x) → T (not (is_nan x)) → 2047 * 2 ^ 52 ≤ to_bits binary64 x % 2 ^ 63
    → x ≡ inf (leb (2 ^ 63) (to_bits binary64 x))
is_inf x f n h = elim (decide (to_bits binary64 x % 2 ^ 63) (2047 * 2 ^ 52)) [
  | inl l ↦ sym (of_bits-to_bits binary64 x f) ∙ inf_bits (to_bits binary64 x)
      (let e : to_bits binary64 x % 2 ^ 63 ≡ 2047 * 2 ^ 52 = omega arith in e)
  | inr l ↦ absurd (contra (subst (λ (z : Float). T (not (is_nan z)))
      (sym (of_bits-to_bits binary64 x f) ∙ above_inf (to_bits binary64 x) l) n))
]

-- an infinity wins over a NaN
pub infinite_left : (x y : Float) → float_is_infinite x ≡ true → inf false ≡ hypot binary64 x y
unfolding hypot float_is_infinite
infinite_left (inf s) y h = refl
infinite_left nan y h = absurd (true≢false (sym h))
infinite_left (fin s m e) y h = absurd (true≢false (sym h))

pub infinite_right : (x y : Float) → float_is_infinite y ≡ true → inf false ≡ hypot binary64 x y
unfolding hypot float_is_infinite
infinite_right nan (inf t) h = refl
infinite_right (inf s) (inf t) h = refl
infinite_right (fin s m e) (inf t) h = refl
infinite_right x nan h = absurd (true≢false (sym h))
infinite_right x (fin t n d) h = absurd (true≢false (sym h))

pub nan_left : (x y : Float) → float_is_infinite y ≡ false → is_nan x ≡ true → nan ≡ hypot binary64 x y
unfolding hypot float_is_infinite is_nan
nan_left nan nan h n = refl
nan_left nan (inf t) h n = absurd (true≢false h)
nan_left nan (fin t m d) h n = refl
nan_left (inf s) y h n = absurd (true≢false (sym n))
nan_left (fin s m e) y h n = absurd (true≢false (sym n))

pub nan_right : (x y : Float) → float_is_infinite x ≡ false → is_nan y ≡ true → nan ≡ hypot binary64 x y
unfolding hypot float_is_infinite is_nan
nan_right nan nan h n = refl
nan_right (inf s) nan h n = absurd (true≢false h)
nan_right (fin s m e) nan h n = refl
nan_right x (inf t) h n = absurd (true≢false (sym n))
nan_right x (fin t m d) h n = absurd (true≢false (sym n))

pub finite : (x : Float) → T (fits binary64 x) → float_is_infinite x ≡ false → T (not (is_nan x))
    → to_bits binary64 x % 2 ^ 63 < 2047 * 2 ^ 52
unfolding float_is_infinite
finite x f h n = elim (decide (2047 * 2 ^ 52) (to_bits binary64 x % 2 ^ 63)) [
  | inl l ↦ absurd (true≢false (sym (an_infinity (leb (2 ^ 63) (to_bits binary64 x))) ∙ ap float_is_infinite (sym (is_inf x f n l)) ∙ h))
  | inr l ↦ l
]
  where
    an_infinity : (s : Bool) → float_is_infinite (inf s) ≡ true
    an_infinity s = refl
