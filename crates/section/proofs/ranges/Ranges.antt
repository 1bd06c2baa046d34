-- A segment's range holds its computed points, and joined ranges hold what each holds. By the law that such a point lies between
-- the segment's computed ends; a NaN is held by every range.
use Prim.Native.Nat.{◌≤◌}
use native.Mathlib.Nat.{le_of_eq, le_of_lt, le_refl, le_trans}
use native.Mathlib.Omega.{arith}
use mathlib.Core.Bool.{Bool, true, false, not, cond}
use mathlib.Core.Path.{◌≡◌, refl, sym, subst, ◌∙◌}
use borrow.Author.Tests.{le-ltb}
use lib.Dec.{T}
use lib.Ieee.{Float, nan, inf, fin, binary64, add, lt, mul, neg, sub, fits}
use lib.Ieee.Fits.{add-fits, and_i, sub-fits}
use lib.Ieee.Scale.{finite}
use Rattle.arith.proofs.roots.Rounding.Key.{finite_inside, finite_number, key, mid, mid_pos, number, number_of}
use Rattle.arith.proofs.roots.Rounding.KeyOrder.{lt_key, lt→key, nlt→key}
use Rattle.arith.proofs.roots.Rounding.Sum.{add_number, sub_number}
use Rattle.arith.specs.F64.{◌⊕◌, ◌⊖◌, ◌⊗◌, ◌≺◌, ◌≼◌, 𝟘, ∞}
use Rattle.arith.specs.Num.{is_finite}
use Rattle.arith.proofs.Laws.Along.{Share, no_step, point_not_above, point_not_below, step_down, step_up}
use Rattle.arith.proofs.Laws.Hypot.{inf_number}
use Rattle.arith.proofs.Laws.OrderHeld.{true→T, inf_not_less, not_less_minus_inf, not_less_nan, not_lt_trans_held, number_held}
use Rattle.arith.proofs.Laws.Order.{lt_is_not_le, nle→key}
use Rattle.section.specs.ranges.Ranges.{range, range_of, joined}
use Rattle.section.specs.declared.ranges.shapes.Range.{Range}
use Rattle.arith.proofs.Laws.Sizes.{zero_key, zero_number}

pub record Holds (g : Range) (x : Float) : Type 0 where
  pub low : (x ≺ g.lo) ≡ false
  pub high : (g.hi ≺ x) ≡ false

-- both ends are numbers
pub record Ended (g : Range) : Type 0 where
  pub low : T (number binary64 g.lo)
  pub high : T (number binary64 g.hi)

-- ---- a segment's range
finite_start : (a b : Float) → is_finite (b ⊖ a) ≡ true → T (finite a)
unfolding is_finite sub add neg
finite_start nan nan e = true→T e
finite_start nan (inf t) e = true→T e
finite_start nan (fin t m i) e = true→T e
finite_start (inf s) nan e = true→T e
finite_start (inf true) (inf true) e = true→T e
finite_start (inf true) (inf false) e = true→T e
finite_start (inf false) (inf true) e = true→T e
finite_start (inf false) (inf false) e = true→T e
finite_start (inf s) (fin t m i) e = true→T e
finite_start (fin s n j) b e = tt

finite_of : (x : Float) → is_finite x ≡ true → T (finite x)
unfolding is_finite
finite_of nan e = true→T e
finite_of (inf s) e = true→T e
finite_of (fin s m i) e = tt

itself : (x : Float) → T (finite_number binary64 x) → (x ≺ x) ≡ false
itself x X = let N = number_of binary64 x X in lt_key binary64 x x N N ∙ le-ltb _ _ (le_refl (key binary64 x))

-- x - x is finite
zero_step : (x : Float) → T (finite_number binary64 x) → T (finite_number binary64 (x ⊖ x))
zero_step x X =
    let e = no_step binary64 x X in
    finite_inside binary64 (x ⊖ x) (sub_number binary64 x x X X) (omega (arith, e, mid_pos binary64))
    (omega (arith, e, mid_pos binary64))

module _ (a b : Float) (A : T (fits binary64 a)) where
  -- what is said of the range where the step is finite, and of everything, is said of the range
  by_step : (P : Range → Type 0)
      → (T (finite_number binary64 a) → T (finite_number binary64 (b ⊖ a)) → (q : Bool)
      → (T q → key binary64 (b ⊖ a) ≤ mid binary64) → (T (not q) → mid binary64 ≤ key binary64 (b ⊖ a))
      → P (cond q (range (a ⊕ (b ⊖ a)) a) (range a (a ⊕ (b ⊖ a)))))
      → P (range (neg ∞) ∞) → P (range_of a b)
  unfolding range_of
  by_step P h k = go (is_finite (b ⊖ a)) refl
    where
      go : (p : Bool) → is_finite (b ⊖ a) ≡ p
          → P (cond p (cond (b ⊖ a ≺ 𝟘) (range (a ⊕ (b ⊖ a)) a) (range a (a ⊕ (b ⊖ a)))) (range (neg ∞) ∞))
      go true e =
          let D : T (finite_number binary64 (b ⊖ a)) =
          and_i (fits binary64 (b ⊖ a)) (finite (b ⊖ a)) (sub-fits binary64 b a) (finite_of (b ⊖ a) e) in
          let N = number_of binary64 (b ⊖ a) D in
          h (and_i (fits binary64 a) (finite a) A (finite_start a b e)) D (b ⊖ a ≺ 𝟘)
          (λ t. le_trans (le_of_lt (lt→key binary64 (b ⊖ a) 𝟘 N zero_number t)) (le_of_eq zero_key))
          (λ t. le_trans (le_of_eq (sym zero_key)) (nlt→key binary64 (b ⊖ a) 𝟘 N zero_number t))
      go false e = k

  pub range_ended : Ended (range_of a b)
  unfolding neg
  range_ended =
      by_step Ended (λ F D q h k. go F D q) (record { low = inf_number binary64 true; high = inf_number binary64 false })
    where
      go : T (finite_number binary64 a) → T (finite_number binary64 (b ⊖ a)) → (q : Bool)
          → Ended (cond q (range (a ⊕ (b ⊖ a)) a) (range a (a ⊕ (b ⊖ a))))
      go F D true = record { low = add_number binary64 a (b ⊖ a) F D; high = number_of binary64 a F }
      go F D false = record { low = number_of binary64 a F; high = add_number binary64 a (b ⊖ a) F D }

  pub range_holds : (s : Float) → Share binary64 s → Holds (range_of a b) (a ⊕ (b ⊖ a) ⊗ s)
  unfolding neg
  range_holds s S =
      by_step (λ g. Holds g (a ⊕ (b ⊖ a) ⊗ s)) go
      (record { low = not_less_minus_inf (a ⊕ (b ⊖ a) ⊗ s); high = inf_not_less (a ⊕ (b ⊖ a) ⊗ s) })
    where
      go : T (finite_number binary64 a) → T (finite_number binary64 (b ⊖ a)) → (q : Bool)
          → (T q → key binary64 (b ⊖ a) ≤ mid binary64) → (T (not q) → mid binary64 ≤ key binary64 (b ⊖ a))
          → Holds (cond q (range (a ⊕ (b ⊖ a)) a) (range a (a ⊕ (b ⊖ a)))) (a ⊕ (b ⊖ a) ⊗ s)
      go F D true h k = record {
        low = point_not_below binary64 a (b ⊖ a) s F D true h k S;
        high = point_not_above binary64 a (b ⊖ a) s F D true h k S;
      }
      go F D false h k = record {
        low = point_not_below binary64 a (b ⊖ a) s F D false h k S;
        high = point_not_above binary64 a (b ⊖ a) s F D false h k S;
      }

  -- and where the segment starts
  pub range_starts : Holds (range_of a b) a
  unfolding neg
  range_starts =
      by_step (λ g. Holds g a) go (record { low = not_less_minus_inf a; high = inf_not_less a })
    where
      go : T (finite_number binary64 a) → T (finite_number binary64 (b ⊖ a)) → (q : Bool)
          → (T q → key binary64 (b ⊖ a) ≤ mid binary64) → (T (not q) → mid binary64 ≤ key binary64 (b ⊖ a))
          → Holds (cond q (range (a ⊕ (b ⊖ a)) a) (range a (a ⊕ (b ⊖ a)))) a
      go F D true h k = record { low = step_down binary64 a (b ⊖ a) F D (h tt); high = itself a F }
      go F D false h k = record { low = itself a F; high = step_up binary64 a (b ⊖ a) F D (k tt) }

-- ---- a segment that stays at a
module _ (g : Range) (G : Ended g) where
  nothing_held : Holds g nan
  unfolding lt
  nothing_held = record { low = refl; high = not_less_nan g.hi }

  finite_stays : (a s : Float) → T (finite_number binary64 a) → Share binary64 s → Holds g a → Holds g (a ⊕ (a ⊖ a) ⊗ s)
  finite_stays a s A S h =
      let N = number_of binary64 a A in
      let D : T (finite_number binary64 (a ⊖ a)) = zero_step a A in
      let e = no_step binary64 a A in
      record {
        low = not_lt_trans_held binary64 _ a g.lo (add-fits binary64 _ _) N (number_held binary64 g.lo G.low)
            (point_not_below binary64 a (a ⊖ a) s A D false (λ t. absurd t) (λ t. le_of_eq (sym e)) S) h.low;
        high = not_lt_trans_held binary64 g.hi a _ (number_held binary64 g.hi G.high) N (add-fits binary64 _ _) h.high
            (point_not_above binary64 a (a ⊖ a) s A D true (λ t. le_of_eq e) (λ t. absurd t) S);
      }

  pub stays : (a s : Float) → T (fits binary64 a) → Share binary64 s → Holds g a → Holds g (a ⊕ (a ⊖ a) ⊗ s)
  unfolding add sub mul neg
  stays nan s A S h = nothing_held
  stays (inf true) s A S h = nothing_held
  stays (inf false) s A S h = nothing_held
  stays (fin t m i) s A S h = finite_stays (fin t m i) s (and_i (fits binary64 (fin t m i)) true A tt) S h

-- ---- joined ranges
module _ (x l m : Float) (X : T (fits binary64 x)) (L : T (number binary64 l)) (M : T (number binary64 m)) where
  -- the lesser of two, and the greater
  not_le : (l ≼ m) ≡ false → (l ≺ m) ≡ false
  not_le e =
      lt_key binary64 l m L M ∙ le-ltb _ _ (le_of_lt (nle→key binary64 l m L M (subst (λ (t : Bool). T (not t)) (sym e) tt)))

  not_gt : (l ≼ m) ≡ true → (m ≺ l) ≡ false
  not_gt e = lt_is_not_le binary64 m l M L ∙ rw e

  under_min : (t : Bool) → (l ≼ m) ≡ t → (x ≺ l) ≡ false → (x ≺ cond t l m) ≡ false
  under_min true e h = h
  under_min false e h = not_lt_trans_held binary64 x l m X L (number_held binary64 m M) h (not_le e)

  under_min_right : (t : Bool) → (l ≼ m) ≡ t → (x ≺ m) ≡ false → (x ≺ cond t l m) ≡ false
  under_min_right true e h = not_lt_trans_held binary64 x m l X M (number_held binary64 l L) h (not_gt e)
  under_min_right false e h = h

  -- m is the greater unless m ≤ l
  over_max : (t : Bool) → (l ≼ m) ≡ t → (m ≺ x) ≡ false → (cond t m l ≺ x) ≡ false
  over_max true e h = h
  over_max false e h = not_lt_trans_held binary64 l m x (number_held binary64 l L) M X (not_le e) h

  over_max_right : (t : Bool) → (l ≼ m) ≡ t → (l ≺ x) ≡ false → (cond t m l ≺ x) ≡ false
  over_max_right true e h = not_lt_trans_held binary64 m l x (number_held binary64 m M) L X (not_gt e) h
  over_max_right false e h = h

cond_number : (b : Bool) (x y : Float) → T (number binary64 x) → T (number binary64 y) → T (number binary64 (cond b x y))
cond_number true x y h k = h
cond_number false x y h k = k

module _ (g h : Range) (G : Ended g) (H : Ended h) where
  pub joined_ended : Ended (joined g h)
  unfolding joined
  joined_ended = record {
    low = cond_number (g.lo ≼ h.lo) g.lo h.lo G.low H.low;
    high = cond_number (h.hi ≼ g.hi) g.hi h.hi G.high H.high;
  }

  module _ (x : Float) (X : T (fits binary64 x)) where
    pub held_first : Holds g x → Holds (joined g h) x
    unfolding joined
    held_first k = record {
      low = under_min x g.lo h.lo X G.low H.low (g.lo ≼ h.lo) refl k.low;
      high = over_max x h.hi g.hi X H.high G.high (h.hi ≼ g.hi) refl k.high;
    }

    pub held_second : Holds h x → Holds (joined g h) x
    unfolding joined
    held_second k = record {
      low = under_min_right x g.lo h.lo X G.low H.low (g.lo ≼ h.lo) refl k.low;
      high = over_max_right x h.hi g.hi X H.high G.high (h.hi ≼ g.hi) refl k.high;
    }
