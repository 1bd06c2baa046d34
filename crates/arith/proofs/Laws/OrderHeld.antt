-- The order of values that the format holds, NaN among them, as values of the tests. By keys, and by cases at a NaN.
use Rattle.std.proofs.Common.{◌≡◌, Bool, true, false, not, T, sym, refl, ◌∙◌, subst, arith, le-ltb}
use lib.Ieee.{Float, Format, nan, inf, fin, fits, is_nan, le, lt}
use lib.Ieee.Fits.{and_i, and_l}
use Rattle.arith.proofs.roots.Pattern.Special.{greater}
use Rattle.arith.proofs.roots.Rounding.Key.{key, number}
use Rattle.arith.proofs.roots.Rounding.KeyOrder.{key→lt, lt_key, lt→key, nlt→key}

pub T→true : (b : Bool) → T b → b ≡ true
T→true true h = refl
T→true false h = absurd h

pub true→T : {b : Bool} → b ≡ true → T b
true→T e = subst (λ (t : Bool). T t) (sym e) tt

lt_left : (x y : Float) → lt x y ≡ true → T (not (is_nan x))
unfolding lt is_nan
lt_left nan y e = absurd (true→T e)
lt_left (inf s) y e = tt
lt_left (fin s m i) y e = tt

pub le_left : (x y : Float) → le x y ≡ true → T (not (is_nan x))
unfolding le is_nan
le_left nan y e = absurd (true→T e)
le_left (inf s) y e = tt
le_left (fin s m i) y e = tt

pub le_right : (x y : Float) → le x y ≡ true → T (not (is_nan y))
unfolding le is_nan
le_right nan y e = absurd (true→T e)
le_right (inf s) nan e = absurd (true→T e)
le_right (inf s) (inf t) e = tt
le_right (inf s) (fin t n j) e = tt
le_right (fin s m i) nan e = absurd (true→T e)
le_right (fin s m i) (inf t) e = tt
le_right (fin s m i) (fin t n j) e = tt

-- nothing lies above +infinity or below -infinity, and a NaN is neither
pub inf_not_less : (x : Float) → lt (inf false) x ≡ false
unfolding lt
inf_not_less nan = refl
inf_not_less (inf t) = refl
inf_not_less (fin t n j) = refl

pub none_above_inf : (x : Float) → T (lt (inf false) x) → ⊥
none_above_inf x h = subst (λ (t : Bool). T t) (inf_not_less x) h

pub not_less_minus_inf : (x : Float) → lt x (inf true) ≡ false
unfolding lt
not_less_minus_inf nan = refl
not_less_minus_inf (inf true) = refl
not_less_minus_inf (inf false) = refl
not_less_minus_inf (fin t n j) = refl

pub not_less_nan : (x : Float) → lt x nan ≡ false
unfolding lt
not_less_nan nan = refl
not_less_nan (inf t) = refl
not_less_nan (fin t n j) = refl

module _ (f : Format) where
  pub held_number : (x : Float) → T (fits f x) → T (not (is_nan x)) → T (number f x)
  held_number x p q = and_i (fits f x) (not (is_nan x)) p q

  pub number_held : (x : Float) → T (number f x) → T (fits f x)
  number_held x p = and_l (fits f x) (not (is_nan x)) p

  -- what is below a number is one
  pub below_number : (x y : Float) → T (fits f x) → lt x y ≡ true → T (number f x)
  below_number x y X e = held_number x X (lt_left x y e)

  module _ (x y z : Float) (X : T (fits f x)) (Z : T (fits f z)) where
    pub lt_trans_held : T (fits f y) → lt x y ≡ true → lt y z ≡ true → lt x z ≡ true
    lt_trans_held Y p q =
        let nx = below_number x y X p in
        let ny = below_number y z Y q in
        let nz = held_number z Z (greater y z q) in
        T→true (lt x z)
        (key→lt f x z nx nz (omega (arith, lt→key f x y nx ny (true→T p), lt→key f y z ny nz (true→T q))))

    not_lt : T (number f x) → T (number f y) → T (number f z) → lt x y ≡ false → lt y z ≡ false → lt x z ≡ false
    not_lt nx ny nz p q =
        lt_key f x z nx nz ∙ le-ltb (key f x) (key f z)
        (omega (arith, nlt→key f x y nx ny (is_not p), nlt→key f y z ny nz (is_not q)))
      where
        is_not : {b : Bool} → b ≡ false → T (not b)
        is_not e = subst (λ (t : Bool). T (not t)) (sym e) tt

  pub not_lt_trans_held : (x y z : Float) → T (fits f x) → T (number f y) → T (fits f z)
      → lt x y ≡ false → lt y z ≡ false → lt x z ≡ false
  unfolding lt is_nan
  not_lt_trans_held nan y z X Y Z p q = refl
  not_lt_trans_held (inf s) y nan X Y Z p q = refl
  not_lt_trans_held (fin s m i) y nan X Y Z p q = refl
  not_lt_trans_held (inf s) y (inf t) X Y Z p q =
      not_lt (inf s) y (inf t) X Z (held_number (inf s) X tt) Y (held_number (inf t) Z tt) p q
  not_lt_trans_held (inf s) y (fin t n j) X Y Z p q =
      not_lt (inf s) y (fin t n j) X Z (held_number (inf s) X tt) Y (held_number (fin t n j) Z tt) p q
  not_lt_trans_held (fin s m i) y (inf t) X Y Z p q =
      not_lt (fin s m i) y (inf t) X Z (held_number (fin s m i) X tt) Y (held_number (inf t) Z tt) p q
  not_lt_trans_held (fin s m i) y (fin t n j) X Y Z p q =
      not_lt (fin s m i) y (fin t n j) X Z (held_number (fin s m i) X tt) Y (held_number (fin t n j) Z tt) p q
