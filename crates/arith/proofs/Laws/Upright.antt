-- A value without a sign is not below one that is at most 0, and what is over 1e-12 has no sign. By cases of the values.
use Rattle.std.proofs.Common.{◌≡◌, ℕ, zero, suc, ◌+◌, ◌*◌, ◌<◌, Bool, true, false, not, ◌&&◌, ◌||◌, T, eqb, ltb, ℤ, sym, refl, zero-lt-suc, mul-pos, zero-mul, arith, lit<, lt→ltb, le-ltb, ne_eqb}
use lib.Ieee.Fits.{down_pos, up_pos}
use lib.Ieee.{Float, nan, inf, fin, le, lt, eq, of_bits, up, down}
use Rattle.arith.specs.F64.{◌≺◌, ◌≼◌, 𝟘, e_12}
use Rattle.arith.specs.Num.{is_finite}
use Rattle.arith.proofs.roots.Rounding.Key.{negative}
use Rattle.arith.proofs.Laws.OrderHeld.{true→T}

-- no sign
abbrev pub upright : Float → Bool
upright x = not (negative x)

none_below_0 : (a b : ℕ) → b ≡ 0 → ltb a b ≡ false
none_below_0 a b e = le-ltb a b (omega (arith, e))

positive_over_0 : (a b : ℕ) (t : Bool) → 0 < a → b ≡ 0 → (ltb a b || (eqb a b && t)) ≡ true → ⊥
positive_over_0 a b t h e k = true→T (rw (le-ltb a b (omega (arith, e)), ne_eqb a b (omega (arith, e))) at k)

at_most : (n : ℕ) (d z : ℤ) → le (fin false n d) (fin false 0 z) ≡ true → n ≡ 0
unfolding le lt eq
at_most zero d z e = refl
at_most (suc n) d z e =
    absurd (positive_over_0 (suc n * up d * down z) (0 * up z * down d) true
    (mul-pos (mul-pos (zero-lt-suc n) (up_pos d)) (down_pos z)) (rw (zero-mul (up z), zero-mul (down d))) e)

at_most_0 : (n : ℕ) (d : ℤ) → (fin false n d ≼ 𝟘) ≡ true → n ≡ 0
unfolding of_bits
at_most_0 n d e = at_most n d _ e

pub not_below : (x b : Float) → T (upright x) → (b ≼ 𝟘) ≡ true → (x ≺ b) ≡ false
unfolding le lt eq of_bits
not_below nan b h e = refl
not_below (inf true) b h e = absurd h
not_below (inf false) nan h e = refl
not_below (inf false) (inf t) h e = refl
not_below (inf false) (fin t n d) h e = refl
not_below (fin true m i) b h e = absurd h
not_below (fin false m i) nan h e = refl
not_below (fin false m i) (inf true) h e = refl
not_below (fin false m i) (inf false) h e = absurd (true→T e)
not_below (fin false m i) (fin true n d) h e = refl
not_below (fin false m i) (fin false n d) h e =
    none_below_0 (m * up i * down d) (n * up d * down i) (rw (at_most_0 n d e, zero-mul (up d), zero-mul (down i)))

-- what is not at most 1e-12 has no sign
below_of : (a b : ℕ) (t : Bool) → 0 < b → (ltb 0 (a + b) || t) ≡ false → ⊥
below_of a b t h e = go (ltb 0 (a + b)) (lt→ltb 0 (a + b) (omega arith)) e
  where
    go : (u : Bool) → T u → (u || t) ≡ false → ⊥
    go true k e = true→T (sym e)
    go false k e = k

pub over_upright : (d : Float) → is_finite d ≡ true → (d ≼ e_12) ≡ false → T (upright d)
unfolding le lt eq of_bits is_finite
over_upright nan f g = tt
over_upright (inf s) f g = absurd (true→T f)
over_upright (fin false m e) f g = tt
over_upright (fin true m e) f g = below_of _ _ _ (mul-pos (lit< tt) (down_pos e)) g
