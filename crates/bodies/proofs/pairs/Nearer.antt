-- What the nearer of two hits is: not above either distance, whole the winner's, and the same when the sections change places,
-- but for a tie. By the order of floats, which is total on all that are no NaN.
use mathlib.Core.Bool.{Bool, true, false, not, ◌||◌, cond}
use mathlib.Core.Path.{◌≡◌, refl, subst}
use lib.Dec.{T, T_not}
use lib.Ieee.{Float, nan, inf, fin, is_nan, lt, le, eq}
use mir.Facts.{T_not-not}
use Rattle.arith.specs.F64.{◌≺◌, ◌≼◌}
use Rattle.arith.proofs.Laws.Order.{finite_lt_is_not_le}
use Rattle.walk.specs.declared.shapes.CountedHit.{CountedHit}
use Rattle.bodies.specs.pairs.Pairs.{Won, won, nearer, winner}

-- ---- the order
pub lt_is_not_le : (x y : Float) → T (not (is_nan x)) → T (not (is_nan y)) → (x ≺ y) ≡ not (y ≼ x)
unfolding is_nan lt le eq
lt_is_not_le nan y p q = absurd p
lt_is_not_le (inf s) nan p q = absurd q
lt_is_not_le (fin s m e) nan p q = absurd q
lt_is_not_le (inf true) (inf true) p q = refl
lt_is_not_le (inf true) (inf false) p q = refl
lt_is_not_le (inf false) (inf true) p q = refl
lt_is_not_le (inf false) (inf false) p q = refl
lt_is_not_le (inf true) (fin t n d) p q = refl
lt_is_not_le (inf false) (fin t n d) p q = refl
lt_is_not_le (fin s m e) (inf true) p q = refl
lt_is_not_le (fin s m e) (inf false) p q = refl
lt_is_not_le (fin s m e) (fin t n d) p q = finite_lt_is_not_le s t m n e d

or_first : (a b : Bool) → T a → T (a || b)
or_first true b h = tt
or_first false b h = absurd h

pub below_le : (x y : Float) → T (x ≺ y) → T (x ≼ y)
unfolding le
below_le x y h = or_first (x ≺ y) (eq x y) h

module _ (x y : Float) (p : T (not (is_nan x))) (q : T (not (is_nan y))) where
  pub not_below_le : T (not (x ≺ y)) → T (y ≼ x)
  not_below_le h = T_not-not (y ≼ x) (subst (λ (b : Bool). T (not b)) (lt_is_not_le x y p q) h)

  pub never_both : T (x ≺ y) → T (y ≺ x) → ⊥
  never_both h k = T_not (y ≼ x) (subst T (lt_is_not_le x y p q) h) (below_le y x k)

-- ---- of two hits whose distances are no NaN
abbrev distance : CountedHit → Float
distance h = h.hit.distance

pub record Lesser (chuck work : CountedHit) (w : Won) : Type 0 where
  pub not_above_chuck : T (w.counted.hit.distance ≼ chuck.hit.distance)
  pub not_above_work : T (w.counted.hit.distance ≼ work.hit.distance)
  pub whole : w.counted ≡ winner chuck work w
  pub by_less : T w.work → T (work.hit.distance ≺ chuck.hit.distance)

module _ (chuck work : CountedHit) (p : T (not (is_nan chuck.hit.distance))) (q : T (not (is_nan work.hit.distance))) where
  pub self_le : (x : Float) → T (not (is_nan x)) → T (x ≼ x)
  self_le x n = go (x ≺ x) (below_le x x) (not_below_le x x n n)
    where
      go : (b : Bool) → (T b → T (x ≼ x)) → (T (not b) → T (x ≼ x)) → T (x ≼ x)
      go true f g = f tt
      go false f g = g tt

  pub nearer_lesser : Lesser chuck work (nearer chuck work)
  nearer_lesser =
      go (distance work ≺ distance chuck) (below_le (distance work) (distance chuck))
      (not_below_le (distance work) (distance chuck) q p) (λ h. h)
    where
      go : (b : Bool) → (T b → T (distance work ≼ distance chuck)) → (T (not b) → T (distance chuck ≼ distance work))
          → (T b → T (distance work ≺ distance chuck)) → Lesser chuck work (cond b (won true work) (won false chuck))
      go true f g k = record {
        not_above_chuck = f tt;
        not_above_work = self_le (distance work) q;
        whole = refl;
        by_less = k;
      }
      go false f g k = record {
        not_above_chuck = self_le (distance chuck) p;
        not_above_work = g tt;
        whole = refl;
        by_less = λ h. absurd h;
      }

taken_branch : {A : Type 0} (b : Bool) (x y : A) → T b → cond b x y ≡ x
taken_branch true x y h = refl
taken_branch false x y h = absurd h

other_branch : {A : Type 0} (b : Bool) (x y : A) → (T b → ⊥) → cond b x y ≡ y
other_branch true x y h = absurd (h tt)
other_branch false x y h = refl

-- a smaller distance wins from either place
pub smaller_wins : (x y : CountedHit) → T (not (is_nan x.hit.distance)) → T (not (is_nan y.hit.distance))
    → T (x.hit.distance ≺ y.hit.distance) → (nearer x y ≡ won false x) × (nearer y x ≡ won true x)
smaller_wins x y p q h = (
  other_branch (distance y ≺ distance x) (won true y) (won false x) (never_both (distance x) (distance y) p q h),
  taken_branch (distance x ≺ distance y) (won true x) (won false y) h,
)

-- at a tie the first place wins
pub tie_first : (x y : CountedHit) → (T (y.hit.distance ≺ x.hit.distance) → ⊥) → nearer x y ≡ won false x
tie_first x y h = other_branch (distance y ≺ distance x) (won true y) (won false x) h
