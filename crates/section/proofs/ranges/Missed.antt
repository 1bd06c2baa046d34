-- A side of a box that alone leaves nothing of a segment leaves nothing of it after the other sides, so that the clip is none. By
-- the order alone: what the other sides leave lies from 0 to 1, and the quotient lies outside.
use mathlib.Core.Bool.{Bool, true, false, cond, ◌||◌}
use mathlib.Core.Path.{◌≡◌, refl, sym, ◌∙◌}
use lib.Dec.{T}
use Rattle.std.specs.Prelude.{Option, None, Some}
use Rattle.std.specs.Option.{option_and_then}
use lib.Ieee.{Float, nan, inf, fin, binary64, fits, is_nan, lt, neg, of_bits}
use lib.Ieee.Fits.{div-fits}
use Rattle.arith.proofs.roots.Rounding.Key.{number}
use Rattle.arith.specs.F64.{◌⊖◌, ◌⊘◌, ◌≺◌, ◌≼◌, 𝟘, 𝟙, e_15, e_18}
use Rattle.arith.specs.Num.{abs}
use Rattle.arith.proofs.Laws.OrderHeld.{true→T, below_number, held_number, lt_trans_held, not_less_nan, not_lt_trans_held}
use Rattle.arith.proofs.Laws.OrderHeld.{number_held}
use Rattle.section.specs.declared.profile.shapes.Aabb.{Aabb}
use Rattle.section.specs.declared.profile.shapes.Vertex.{Vertex}
use Rattle.section.specs.segments.Clip.{clip, clip_side, part}
use Rattle.section.specs.ranges.Ranges.{misses_along, side_misses}
use Rattle.section.specs.declared.segments.shapes.Part.{Part}
use Rattle.arith.proofs.Laws.Sizes.{finite_number_lem, one_finite, zero_number}

-- ---- what is left: none, or a part from 0 to 1
record Inner (t0 t1 : Float) : Type 0 where
  first : T (number binary64 t0)
  last : T (number binary64 t1)
  low : (t0 ≺ 𝟘) ≡ false
  high : (𝟙 ≺ t1) ≡ false

abbrev Left : Option Part → Type 0
Left None = Unit
Left (Some c) = Inner c.t0 c.t1

held : (x : Float) → T (number binary64 x) → T (fits binary64 x)
held = number_held binary64

zero_held : T (fits binary64 𝟘)
zero_held = held 𝟘 zero_number

one_held : T (fits binary64 𝟙)
one_held = held 𝟙 (finite_number_lem one_finite)

over_number : (x t : Float) → T (fits binary64 t) → (x ≺ t) ≡ true → T (number binary64 t)
over_number x nan X e = absurd (true→T (sym (not_less_nan x) ∙ e))
over_number x (inf s) X e = held_number binary64 (inf s) X (unfold is_nan in tt)
over_number x (fin s m i) X e = held_number binary64 (fin s m i) X (unfold is_nan in tt)

-- a test that would give what is false is false
denied : (b : Bool) → (b ≡ true → ⊥) → b ≡ false
denied true h = absurd (h refl)
denied false h = refl

conflict : {b : Bool} → b ≡ true → b ≡ false → ⊥
conflict e g = true→T (sym g ∙ e)

granted : (b : Bool) → (b ≡ false → ⊥) → b ≡ true
granted true h = refl
granted false h = absurd (h refl)

module _ (t t0 t1 : Float) (F : T (fits binary64 t)) (I : Inner t0 t1) where
  later : (t0 ≺ t) ≡ true → Inner t t1
  later e = record {
    first = over_number t0 t F e;
    last = I.last;
    low = denied (t ≺ 𝟘)
        (λ h. conflict (lt_trans_held binary64 t0 t 𝟘 (held t0 I.first) zero_held F e h) I.low);
    high = I.high;
  }

  sooner : (t ≺ t1) ≡ true → Inner t0 t
  sooner e = record {
    first = I.first;
    last = below_number binary64 t t1 F e;
    low = I.low;
    high = denied (𝟙 ≺ t)
        (λ h. conflict (lt_trans_held binary64 𝟙 t t1 one_held (held t1 I.last) F h e) I.high);
  }

  past_end : (𝟙 ≺ t) ≡ true → (t1 ≺ t) ≡ true
  past_end e =
      granted (t1 ≺ t) (λ h. conflict e (not_lt_trans_held binary64 𝟙 t1 t one_held I.last F I.high h))

  before_start : (t ≺ 𝟘) ≡ true → (t ≺ t0) ≡ true
  before_start e =
      granted (t ≺ t0) (λ h. conflict e (not_lt_trans_held binary64 t t0 𝟘 F I.first zero_held h I.low))

module _ (p q : Float) where
  left_part : (c : Part) → Inner c.t0 c.t1 → Left (clip_side p q c)
  unfolding clip_side
  left_part c I = go (abs p ≼ e_18) (q ≺ neg e_15) (p ≺ 𝟘) (c.t1 ≺ q ⊘ p) (c.t0 ≺ q ⊘ p) refl (q ⊘ p ≺ c.t0) (q ⊘ p ≺ c.t1) refl
    where
      go : (a b n h k : Bool) → (c.t0 ≺ q ⊘ p) ≡ k → (u v : Bool) → (q ⊘ p ≺ c.t1) ≡ v
          → Left (cond a (cond b None (Some c)) (cond n (cond h None (cond k (Some (part (q ⊘ p) c.t1)) (Some c)))
          (cond u None (cond v (Some (part c.t0 (q ⊘ p))) (Some c)))))
      go true true n h k K u v L = tt
      go true false n h k K u v L = I
      go false b true true k K u v L = tt
      go false b true false true K u v L = later (q ⊘ p) c.t0 c.t1 (div-fits binary64 q p) I K
      go false b true false false K u v L = I
      go false b false h k K true v L = tt
      go false b false h k K false true L = sooner (q ⊘ p) c.t0 c.t1 (div-fits binary64 q p) I L
      go false b false h k K false false L = I

  left_side : (o : Option Part) → Left o → Left (option_and_then (clip_side p q) o)
  left_side None l = tt
  left_side (Some c) I = left_part c I

  missed_part : (c : Part) → Inner c.t0 c.t1 → side_misses p q ≡ true → clip_side p q c ≡ None
  unfolding clip_side side_misses
  missed_part c I =
      go (𝟘 ≼ q) (abs p ≼ e_18) (q ≺ neg e_15) (p ≺ 𝟘) (𝟙 ≺ q ⊘ p) (q ⊘ p ≺ 𝟘) (c.t1 ≺ q ⊘ p) (q ⊘ p ≺ c.t0)
      (past_end (q ⊘ p) c.t0 c.t1 (div-fits binary64 q p) I) (before_start (q ⊘ p) c.t0 c.t1 (div-fits binary64 q p) I) _ _
    where
      go : (o a b n h u y z : Bool) → (h ≡ true → y ≡ true) → (u ≡ true → z ≡ true) → (d e : Option Part)
          → cond o false (cond a b (cond n h u)) ≡ true
          → cond a (cond b None (Some c)) (cond n (cond y None d) (cond z None e)) ≡ None
      go true a b n h u y z Y Z d e m = absurd (true→T m)
      go false true true n h u y z Y Z d e m = refl
      go false true false n h u y z Y Z d e m = absurd (true→T m)
      go false false b true true u y z Y Z d e m = rw (Y refl)
      go false false b true false u y z Y Z d e m = absurd (true→T m)
      go false false b false h true y z Y Z d e m = rw (Z refl)
      go false false b false h false y z Y Z d e m = absurd (true→T m)

  missed : (o : Option Part) → Left o → side_misses p q ≡ true → option_and_then (clip_side p q) o ≡ None
  missed None l m = refl
  missed (Some c) I m = missed_part c I m

-- ---- the four sides in turn
whole : Inner 𝟘 𝟙
unfolding lt of_bits
whole = record { first = zero_number; last = finite_number_lem one_finite; low = refl; high = refl }

either : {A : Type 0} (p q : Bool) → (p ≡ true → A) → (q ≡ true → A) → (p || q) ≡ true → A
either true q h k e = h refl
either false q h k e = k e

module _ (x : Aabb) (a b : Vertex) where
  abbrev after_z0 : Option Part
  after_z0 = clip_side (neg (b.z ⊖ a.z)) (a.z ⊖ x.z0) (part 𝟘 𝟙)

  abbrev after_z1 : Option Part
  after_z1 = option_and_then (clip_side (b.z ⊖ a.z) (x.z1 ⊖ a.z)) after_z0

  abbrev after_r0 : Option Part
  after_r0 = option_and_then (clip_side (neg (b.r ⊖ a.r)) (a.r ⊖ x.r0)) after_z1

  left_z0 : Left after_z0
  left_z0 = left_part _ _ (part 𝟘 𝟙) whole

  left_z1 : Left after_z1
  left_z1 = left_side _ _ after_z0 left_z0

  left_r0 : Left after_r0
  left_r0 = left_side _ _ after_z1 left_z1

  missed_z0 : side_misses (neg (b.z ⊖ a.z)) (a.z ⊖ x.z0) ≡ true → clip x a b ≡ None
  unfolding clip
  missed_z0 m = rw (missed_part _ _ (part 𝟘 𝟙) whole m)

  missed_z1 : side_misses (b.z ⊖ a.z) (x.z1 ⊖ a.z) ≡ true → clip x a b ≡ None
  unfolding clip
  missed_z1 m = rw (missed _ _ after_z0 left_z0 m)

  missed_r0 : side_misses (neg (b.r ⊖ a.r)) (a.r ⊖ x.r0) ≡ true → clip x a b ≡ None
  unfolding clip
  missed_r0 m = rw (missed _ _ after_z1 left_z1 m)

  missed_r1 : side_misses (b.r ⊖ a.r) (x.r1 ⊖ a.r) ≡ true → clip x a b ≡ None
  unfolding clip
  missed_r1 m = rw (missed _ _ after_r0 left_r0 m)

  pub missed_z : misses_along a.z b.z x.z0 x.z1 ≡ true → clip x a b ≡ None
  unfolding misses_along
  missed_z e = either _ _ missed_z0 missed_z1 e

  pub missed_r : misses_along a.r b.r x.r0 x.r1 ≡ true → clip x a b ≡ None
  unfolding misses_along
  missed_r e = either _ _ missed_r0 missed_r1 e
