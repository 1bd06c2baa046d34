-- A hypot is no less than any number that one leg's size reaches, so that a point which is no nearer along one axis alone needs no
-- root. By hypot's own bound, and by cases where an operand is no number.
use Rattle.std.proofs.Common.{◌≡◌, ℕ, ◌+◌, ◌≤◌, Bool, true, false, cond, not, T, refl, ap, ◌∙◌, subst, arith}
use lib.Ieee.{eq, fin, fits, Float, Format, inf, is_nan, le, lt, nan, neg}
use lib.Ieee.Fits.{neg-fits}
use Rattle.arith.specs.roots.Roots.{hypot}
use Rattle.arith.proofs.roots.Pattern.Special.{like_itself}
use Rattle.arith.proofs.roots.Rounding.Key.{key_is, magnitude, mid, negative, number, side}
use Rattle.arith.proofs.roots.Rounding.KeyOrder.{key→le}
use Rattle.arith.specs.F64.{𝟘}
use Rattle.arith.specs.Num.{abs}
use Rattle.arith.proofs.Laws.Order.{le_trans_float, lt_is_not_le}
use Rattle.arith.proofs.Laws.OrderHeld.{T→true, true→T, held_number, le_left, le_right}
use Rattle.arith.proofs.Laws.Hypot.{hypot_comm, hypot_ge, hypot_neg, hypot_number, unsigned, unsigned_key, unsigned_number}

pub at_most : (m a : ℕ) (s : Bool) → side m s a ≤ m + a
at_most m a true = omega arith
at_most m a false = omega arith

below_unsigned : (f : Format) (x : Float) → T (number f x) → T (le x (unsigned x))
below_unsigned f x p = key→le f x (unsigned x) p (unsigned_number f x p)
    (rw (unsigned_key f x p, key_is f x) (at_most (mid f) (magnitude f x) (negative x)))

module _ (f : Format) (b x y : Float) (B : T (number f b)) (X : T (number f x)) (Y : T (number f y)) where
  reached : le b x ≡ true → le b (hypot f x y) ≡ true
  reached e = T→true (le b (hypot f x y))
      (le_trans_float f b (unsigned x) (hypot f x y) B (unsigned_number f x X) (hypot_number f x y X Y)
      (le_trans_float f b x (unsigned x) B X (unsigned_number f x X) (true→T e) (below_unsigned f x X))
      (hypot_ge f x y X Y))

  over : le b x ≡ true → lt (hypot f x y) b ≡ false
  over e = lt_is_not_le f (hypot f x y) b (hypot_number f x y X Y) B ∙ ap not (reached e)

pub no_number_less : (f : Format) (b x : Float) → lt (hypot f x nan) b ≡ false
unfolding lt hypot
no_number_less f nan nan = refl
no_number_less f nan (inf s) = refl
no_number_less f nan (fin s m i) = refl
no_number_less f (inf t) nan = refl
no_number_less f (inf t) (inf s) = refl
no_number_less f (inf t) (fin s m i) = refl
no_number_less f (fin t n j) nan = refl
no_number_less f (fin t n j) (inf s) = refl
no_number_less f (fin t n j) (fin s m i) = refl

module _ (f : Format) where
  module _ (b x : Float) (B : T (fits f b)) (X : T (fits f x)) (e : le b x ≡ true) where
    leg_over : (y : Float) → T (number f y) → lt (hypot f x y) b ≡ false
    leg_over y Y = over f b x y (held_number f b B (le_left b x e)) (held_number f x X (le_right b x e)) Y e

    pub leg_not_less : (y : Float) → T (fits f y) → lt (hypot f x y) b ≡ false
    leg_not_less nan Y = no_number_less f b x
    leg_not_less (inf s) Y = leg_over (inf s) (held_number f (inf s) Y (unfold is_nan in tt))
    leg_not_less (fin s m i) Y = leg_over (fin s m i) (held_number f (fin s m i) Y (unfold is_nan in tt))

    leg_reaches : (y : Float) → T (number f y) → le b (hypot f x y) ≡ true
    leg_reaches y Y = reached f b x y (held_number f b B (le_left b x e)) (held_number f x X (le_right b x e)) Y e

  -- b is held by the format, as the machine's own fact about a value says it
  module _ (b x y : Float) (B : fits f b ≡ true) (X : T (fits f x)) where
    -- |x| is x or -x, and hypot is blind to the sign
    either : (P : Float → Type 0) → ((z : Float) → T (fits f z) → le b z ≡ true → P (hypot f z y))
        → le b (abs x) ≡ true → P (hypot f x y)
    either P h = go (lt x 𝟘)
      where
        go : (t : Bool) → le b (cond t (neg x) x) ≡ true → P (hypot f x y)
        go true e = subst P (hypot_neg f x y) (h (neg x) (neg-fits f x X) e)
        go false e = h x X e

    pub hypot_not_less : T (fits f y) → le b (abs x) ≡ true → lt (hypot f x y) b ≡ false
    hypot_not_less Y = either (λ d. lt d b ≡ false) (λ z Z e. leg_not_less b z (true→T B) Z e y Y)

    -- y is like itself, and so no NaN
    pub hypot_reaches : T (fits f y) → eq y y ≡ true → le b (abs x) ≡ true → le b (hypot f x y) ≡ true
    hypot_reaches Y s =
        either (λ d. le b d ≡ true) (λ z Z e. leg_reaches b z (true→T B) Z e y (held_number f y Y (like_itself y s)))

  module _ (b x y : Float) (B : fits f b ≡ true) (Y : T (fits f y)) where
    pub hypot_not_less_right : T (fits f x) → le b (abs y) ≡ true → lt (hypot f x y) b ≡ false
    hypot_not_less_right X e = rw (hypot_comm f x y) (hypot_not_less b y x B Y X e)

    pub hypot_reaches_right : T (fits f x) → eq x x ≡ true → le b (abs y) ≡ true → le b (hypot f x y) ≡ true
    hypot_reaches_right X s e = rw (hypot_comm f x y) (hypot_reaches b y x B Y X s e)
