-- Two numbers from ranges that lie apart: their rounded difference is no less than the rounded gap, so that a hypot with this leg is no
-- less than what the gap reaches. By monotone differences, and by cases where an operand is infinite or a NaN.
use Rattle.std.proofs.Common.{◌≡◌, ℕ, ◌+◌, ◌≤◌, Bool, true, false, not, T, sym, refl, subst, le_trans, le_of_eq, arith}
use lib.Ieee.{add, fin, fits, Float, Format, inf, is_nan, le, lt, nan, neg, sub}
use lib.Ieee.Fits.{and_i, and_l, sub-fits}
use Rattle.arith.specs.roots.Roots.{hypot}
use Rattle.arith.proofs.roots.Rounding.Key.{finite_number, key, mid, number, number_of}
use Rattle.arith.proofs.roots.Rounding.Key as keys
use Rattle.arith.proofs.roots.Rounding.KeyOrder.{key→le, le→key, nlt→key}
use Rattle.arith.proofs.roots.Rounding.RoundKey.{round_key}
use Rattle.arith.proofs.roots.Rounding.Sum.{neg_key, sub_key, sub_number}
use Rattle.arith.proofs.Laws.Along.{add_nan}
use Rattle.arith.proofs.Laws.Extended.{neg_number}
use Rattle.arith.proofs.Laws.Hypot.{hypot_comm, hypot_neg, inf_number, le_inf}
use Rattle.arith.proofs.Laws.HypotReach.{leg_not_less, no_number_less}
use Rattle.arith.proofs.Laws.Monotone.{sub_key_mono}
use Rattle.arith.proofs.Laws.OrderHeld.{T→true, true→T, held_number, le_left, le_right}

-- ---- w is a NaN, or reaches g
data Outcome (f : Format) (w g : Float) : Type 0 where
  lost : w ≡ nan → Outcome f w g
  reached : T (number f w) → key f g ≤ key f w → Outcome f w g

module _ (f : Format) where
  top_key : (g : Float) → T (number f g) → key f g ≤ key f (inf false)
  top_key g G = le→key f g (inf false) G (inf_number f false) (le_inf f g G)

  least_key : (n : ℕ) → key f (inf true) ≤ n
  least_key n = rw (keys.inf_key f true) (omega arith)

  top : (w g : Float) → w ≡ inf false → T (fits f g) → T (not (is_nan g)) → Outcome f w g
  top w g e G n =
      reached (subst (λ (t : Float). T (number f t)) (sym e) (inf_number f false))
      (subst (λ (t : Float). key f g ≤ key f t) (sym e) (top_key g (held_number f g G n)))

  bottom : (w g : Float) → T (fits f w) → g ≡ inf true → Outcome f w g
  unfolding is_nan
  bottom nan g W e = lost refl
  bottom (inf s) g W e = reached (held_number f (inf s) W tt) (rw e (least_key (key f (inf s))))
  bottom (fin s m i) g W e = reached (held_number f (fin s m i) W tt) (rw e (least_key (key f (fin s m i))))

  below_inf : (x : Float) → T (not (is_nan (sub f x (inf false)))) → sub f x (inf false) ≡ inf true
  unfolding sub add neg is_nan
  below_inf nan h = absurd h
  below_inf (inf true) h = refl
  below_inf (inf false) h = absurd h
  below_inf (fin s m i) h = refl

  from_inf : (y : Float) → T (not (is_nan (sub f (inf true) y))) → sub f (inf true) y ≡ inf true
  unfolding sub add neg is_nan
  from_inf nan h = absurd h
  from_inf (inf true) h = absurd h
  from_inf (inf false) h = refl
  from_inf (fin s m i) h = refl

  is_not : {b : Bool} → b ≡ false → T (not b)
  is_not e = subst (λ (t : Bool). T (not t)) (sym e) tt

  module _ (x y lo hi : Float) (X : T (finite_number f x)) (Y : T (finite_number f y)) (L : T (finite_number f lo))
      (H : T (finite_number f hi)) (p : lt x lo ≡ false) (q : lt hi y ≡ false) where
    finite_outcome : Outcome f (sub f x y) (sub f lo hi)
    finite_outcome =
        reached (sub_number f x y X Y)
        (sub_key_mono f lo x hi y L X H Y
        (nlt→key f x lo (number_of f x X) (number_of f lo L) (is_not p))
        (nlt→key f hi y (number_of f hi H) (number_of f y Y) (is_not q)))

  of_fits : (s : Bool) (m : ℕ) (i : _) → T (fits f (fin s m i)) → T (finite_number f (fin s m i))
  of_fits s m i h = and_i (fits f (fin s m i)) true h tt

  -- lo ≤ x and y ≤ hi
  outcome : (x y lo hi : Float) → T (fits f x) → T (fits f y) → T (fits f lo) → T (fits f hi) → lt x lo ≡ false
      → lt hi y ≡ false → T (not (is_nan (sub f lo hi))) → Outcome f (sub f x y) (sub f lo hi)
  unfolding lt sub add neg is_nan
  outcome nan y lo hi X Y L H p q n = lost refl
  outcome (inf true) y nan hi X Y L H p q n = absurd n
  outcome (inf true) y (inf true) hi X Y L H p q n =
      bottom (sub f (inf true) y) (sub f (inf true) hi) (sub-fits f (inf true) y) (from_inf hi n)
  outcome (inf true) y (inf false) hi X Y L H p q n = absurd (true→T (sym p))
  outcome (inf true) y (fin s m i) hi X Y L H p q n = absurd (true→T (sym p))
  outcome (inf false) nan lo hi X Y L H p q n = lost refl
  outcome (inf false) (inf false) lo hi X Y L H p q n = lost refl
  outcome (inf false) (inf true) lo hi X Y L H p q n = top (inf false) (sub f lo hi) refl (sub-fits f lo hi) n
  outcome (inf false) (fin s m i) lo hi X Y L H p q n = top (inf false) (sub f lo hi) refl (sub-fits f lo hi) n
  outcome (fin s m i) nan lo hi X Y L H p q n = lost refl
  outcome (fin s m i) (inf true) lo hi X Y L H p q n = top (inf false) (sub f lo hi) refl (sub-fits f lo hi) n
  outcome (fin s m i) (inf false) lo nan X Y L H p q n = absurd (rw (add_nan f lo) at n)
  outcome (fin s m i) (inf false) lo (inf true) X Y L H p q n = absurd (true→T (sym q))
  outcome (fin s m i) (inf false) lo (inf false) X Y L H p q n =
      bottom (sub f (fin s m i) (inf false)) (sub f lo (inf false)) (sub-fits f (fin s m i) (inf false)) (below_inf lo n)
  outcome (fin s m i) (inf false) lo (fin t k j) X Y L H p q n = absurd (true→T (sym q))
  outcome (fin s m i) (fin t k j) nan hi X Y L H p q n = absurd n
  outcome (fin s m i) (fin t k j) (inf true) hi X Y L H p q n =
      bottom (sub f (fin s m i) (fin t k j)) (sub f (inf true) hi) (sub-fits f (fin s m i) (fin t k j)) (from_inf hi n)
  outcome (fin s m i) (fin t k j) (inf false) hi X Y L H p q n = absurd (true→T (sym p))
  outcome (fin s m i) (fin t k j) (fin u a b) nan X Y L H p q n = absurd n
  outcome (fin s m i) (fin t k j) (fin u a b) (inf true) X Y L H p q n = absurd (true→T (sym q))
  outcome (fin s m i) (fin t k j) (fin u a b) (inf false) X Y L H p q n =
      bottom (sub f (fin s m i) (fin t k j)) (sub f (fin u a b) (inf false)) (sub-fits f (fin s m i) (fin t k j)) refl
  outcome (fin s m i) (fin t k j) (fin u a b) (fin v c d) X Y L H p q n =
      finite_outcome (fin s m i) (fin t k j) (fin u a b) (fin v c d) (of_fits s m i X) (of_fits t k j Y) (of_fits u a b L)
      (of_fits v c d H) p q

-- ---- x - y is y - x with the other sign
turned_key : (f : Format) (a b c : ℕ) → round_key f a b c + round_key f b a c ≡ mid f + mid f
unfolding round_key
turned_key f a b c = omega arith

data Turned (f : Format) (w v : Float) : Type 0 where
  neither : w ≡ nan → Turned f w v
  turned : T (number f w) → T (number f v) → key f v ≡ key f (neg w) → Turned f w v

module _ (f : Format) where
  infinite_turned : (s : Bool) (w v : Float) → w ≡ inf s → v ≡ neg (inf s) → Turned f w v
  unfolding neg
  infinite_turned s w v e g =
      turned (subst (λ (t : Float). T (number f t)) (sym e) (inf_number f s))
      (subst (λ (t : Float). T (number f t)) (sym g) (inf_number f (not s))) (rw (e, g))

  finite_turned : (x y : Float) → T (finite_number f x) → T (finite_number f y) → Turned f (sub f x y) (sub f y x)
  finite_turned x y X Y =
      let W = sub_number f x y X Y in
      turned W (sub_number f y x Y X)
      (omega (arith, neg_key f (sub f x y) W, sub_key f x y X Y, sub_key f y x Y X, turned_key f (key f x) (key f y) 1))

  turn : (x y : Float) → T (fits f x) → T (fits f y) → Turned f (sub f x y) (sub f y x)
  unfolding sub add neg
  turn nan y X Y = neither refl
  turn (inf s) nan X Y = neither refl
  turn (fin s m i) nan X Y = neither refl
  turn (inf true) (inf true) X Y = neither refl
  turn (inf true) (inf false) X Y = infinite_turned true (inf true) (inf false) refl refl
  turn (inf false) (inf true) X Y = infinite_turned false (inf false) (inf true) refl refl
  turn (inf false) (inf false) X Y = neither refl
  turn (inf s) (fin t k j) X Y = infinite_turned s (inf s) (inf (not s)) refl refl
  turn (fin t k j) (inf true) X Y = infinite_turned false (inf false) (inf true) refl refl
  turn (fin t k j) (inf false) X Y = infinite_turned true (inf true) (inf false) refl refl
  turn (fin s m i) (fin t k j) X Y = finite_turned (fin s m i) (fin t k j) (of_fits f s m i X) (of_fits f t k j Y)

-- ---- a hypot with such a leg
module _ (f : Format) (b z : Float) (B : fits f b ≡ true) (Z : T (fits f z)) where
  lost_not_less : (w : Float) → w ≡ nan → lt (hypot f w z) b ≡ false
  lost_not_less w e = rw (e, hypot_comm f nan z) (no_number_less f b z)

  leg : (w g : Float) → T (fits f g) → le b g ≡ true → Outcome f w g → lt (hypot f w z) b ≡ false
  leg w g G e (lost n) = lost_not_less w n
  leg w g G e (reached W h) =
      let nb = held_number f b (true→T B) (le_left b g e) in
      let ng = held_number f g G (le_right b g e) in
      leg_not_less f b w (true→T B) (and_l (fits f w) (not (is_nan w)) W)
      (T→true (le b w) (key→le f b w nb W (le_trans (le→key f b g nb ng (true→T e)) h))) z Z

  module _ (x y lo hi : Float) (X : T (fits f x)) (Y : T (fits f y)) (L : T (fits f lo)) (H : T (fits f hi))
      (e : le b (sub f lo hi) ≡ true) where
    -- x lies over, y under
    pub gap_above : lt x lo ≡ false → lt hi y ≡ false → lt (hypot f (sub f x y) z) b ≡ false
    gap_above p q =
        leg (sub f x y) (sub f lo hi) (sub-fits f lo hi) e
        (outcome f x y lo hi X Y L H p q (le_right b (sub f lo hi) e))

    -- x lies under, y over
    pub gap_below : lt y lo ≡ false → lt hi x ≡ false → lt (hypot f (sub f x y) z) b ≡ false
    gap_below p q = go (turn f x y X Y) (outcome f y x lo hi Y X L H p q (le_right b (sub f lo hi) e))
      where
        go : Turned f (sub f x y) (sub f y x) → Outcome f (sub f y x) (sub f lo hi) → lt (hypot f (sub f x y) z) b ≡ false
        go (neither n) o = lost_not_less (sub f x y) n
        go (turned W U k) (lost n) = absurd (no_nan (subst (λ (t : Float). T (number f t)) n U))
          where
            no_nan : T (number f nan) → ⊥
            no_nan h = unfold fits is_nan in h
        go (turned W U k) (reached G h) =
            subst (λ (t : Float). lt t b ≡ false) (hypot_neg f (sub f x y) z)
            (leg (neg (sub f x y)) (sub f lo hi) (sub-fits f lo hi) e
            (reached (neg_number f (sub f x y) W) (le_trans h (le_of_eq k))))
