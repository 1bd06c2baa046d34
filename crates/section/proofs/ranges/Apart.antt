-- How far apart ranges lie is a lower bound of the legs between their points: where such legs are hopeless, an edge and a
-- segment of these ranges are no nearer than the best. By the law of gaps, each range having the computed points of its
-- segment.
use native.Mathlib.Nat.{le_refl}
use mathlib.Core.Bool.{Bool, true, false, not, cond}
use mathlib.Core.Path.{◌≡◌, refl, subst, sym}
use lib.Dec.{T}
use lib.Ieee.{Float, nan, inf, fin, binary64, fits, is_nan, lt}
use lib.Ieee.Fits.{add-fits, sub-fits}
use Rattle.arith.proofs.roots.Rounding.Key.{key, number}
use Rattle.arith.proofs.roots.Rounding.KeyOrder.{key→le}
use Rattle.arith.specs.F64.{◌⊕◌, ◌⊖◌, ◌⊗◌, ◌≺◌, ◌≼◌, 𝟘}
use Rattle.arith.proofs.Laws.Along.{Share}
use Rattle.arith.proofs.Laws.Gap.{gap_above, gap_below}
use Rattle.arith.proofs.Laws.OrderHeld.{T→true, held_number, not_less_nan, number_held}
use Rattle.arith.proofs.Laws.Sizes.{zero_number}
use Rattle.section.specs.declared.profile.shapes.Edge.{Edge}
use Rattle.section.specs.declared.profile.shapes.Vertex.{Vertex}
use Rattle.section.proofs.profile.Steps.{pick}
use Rattle.section.specs.segments.Hopeless.{Hopeless, Reaches}
use Rattle.section.specs.segments.Segments.{dot, minus, segments}
use Rattle.section.proofs.segments.Legs.{not_below_itself, over_not_below, over_zero, reaches_nothing, reaches_size}
use Rattle.section.specs.ranges.Ranges.{gap_between, Has, range, range_of, sides_range}
use Rattle.section.specs.declared.ranges.shapes.Range.{Range}
use Rattle.section.proofs.ranges.FarApart.{at_itself, neither, places_shares, share_held, share_least, share_most}
use Rattle.section.proofs.ranges.FarApart.{sides_ended, there, up, back, down}
use Rattle.section.proofs.ranges.Ranges.{Ended, Holds, range_ended, range_holds, stays}

-- ---- ranges that have a segment's points
pub has : (h : Range) (a b : Float) → Ended h → ((t : Float) → Share binary64 t → Holds h (a ⊕ (b ⊖ a) ⊗ t)) → Has h a b
has h a b E k = record {
  low_end = number_held binary64 h.lo E.low;
  high_end = number_held binary64 h.hi E.high;
  low = λ t F p q. (k t (neither t F (is_not p) (is_not q))).low;
  high = λ t F p q. (k t (neither t F (is_not p) (is_not q))).high;
}
  where
    is_not : {b : Bool} → b ≡ false → T (not b)
    is_not e = subst (λ (t : Bool). T (not t)) (sym e) tt

pub range_has : (a b : Float) → T (fits binary64 a) → Has (range_of a b) a b
range_has a b A = has (range_of a b) a b (range_ended a b A) (range_holds a b A)

module _ (a b : Float) (A : T (fits binary64 a)) (B : T (fits binary64 b)) where
  pub has_there : Has (sides_range a b) a b
  has_there = has _ a b (sides_ended a b A B) (there a b A B)

  pub has_end : Has (sides_range a b) b b
  has_end = has _ b b (sides_ended a b A B) (up a b A B)

  pub has_back : Has (sides_range a b) b a
  has_back = has _ b a (sides_ended a b A B) (back a b A B)

  pub has_start : Has (sides_range a b) a a
  has_start = has _ a a (sides_ended a b A B) (down a b A B)

-- what such a range holds
module _ (h : Range) (a b : Float) (H : Has h a b) (t : Float) (S : Share binary64 t) where
  held_low : (a ⊕ (b ⊖ a) ⊗ t ≺ h.lo) ≡ false
  held_low = H.low t (share_held t S) (share_least t S) (share_most t S)

  held_high : (h.hi ≺ a ⊕ (b ⊖ a) ⊗ t) ≡ false
  held_high = H.high t (share_held t S) (share_least t S) (share_most t S)

-- a segment that stays at x
stays_there : (x : Float) → T (fits binary64 x) → T (number binary64 x) → Has (range x x) x x
stays_there x X N =
    has (range x x) x x (record { low = N; high = N })
    (λ t S. stays (range x x) (record { low = N; high = N }) x t X S (at_itself x X))

pub has_itself : (x : Float) → T (fits binary64 x) → Has (range x x) x x
unfolding lt is_nan
has_itself nan X =
    record { low_end = X; high_end = X; low = λ t F p q. not_less_nan (nan ⊕ (nan ⊖ nan) ⊗ t); high = λ t F p q. refl }
has_itself (inf s) X = stays_there (inf s) X (held_number binary64 (inf s) X tt)
has_itself (fin s m i) X = stays_there (fin s m i) X (held_number binary64 (fin s m i) X tt)

-- ---- the gap between two ranges
module _ (g h : Range) where
  abbrev over : Float
  over = g.lo ⊖ h.hi

  abbrev under : Float
  under = h.lo ⊖ g.hi

  pub gap_held : T (fits binary64 (gap_between g h))
  unfolding gap_between
  gap_held =
      pick (λ u. T (fits binary64 u)) (𝟘 ≺ over) (λ t. sub-fits binary64 _ _)
      (λ t. pick (λ u. T (fits binary64 u)) (𝟘 ≺ under) (λ t. sub-fits binary64 _ _) (λ t. number_held binary64 𝟘 zero_number))

  pub gap_plus : (gap_between g h ≺ 𝟘) ≡ false
  unfolding gap_between
  gap_plus = go (𝟘 ≺ over) refl (𝟘 ≺ under) refl
    where
      go : (p : Bool) → (𝟘 ≺ over) ≡ p → (q : Bool) → (𝟘 ≺ under) ≡ q → (cond p over (cond q under 𝟘) ≺ 𝟘) ≡ false
      go true e q k = over_not_below over (sub-fits binary64 _ _) e
      go false e true k = over_not_below under (sub-fits binary64 _ _) k
      go false e false k = not_below_itself 𝟘 (number_held binary64 𝟘 zero_number)

  module _ (x y : Float) (X : T (fits binary64 x)) (Y : T (fits binary64 y)) where
    pub gap_reaches : T (fits binary64 g.lo) → T (fits binary64 g.hi) → T (fits binary64 h.lo)
        → T (fits binary64 h.hi) → (x ≺ g.lo) ≡ false → (g.hi ≺ x) ≡ false → (y ≺ h.lo) ≡ false
        → (h.hi ≺ y) ≡ false → Reaches (gap_between g h) (x ⊖ y)
    unfolding gap_between
    gap_reaches G₀ G₁ H₀ H₁ a b c d = go (𝟘 ≺ over) refl (𝟘 ≺ under) refl
      where
        itself : (u : Float) → T (number binary64 u) → (u ≼ u) ≡ true
        itself u N = T→true (u ≼ u) (key→le binary64 u u N N (le_refl (key binary64 u)))

        go : (p : Bool) → (𝟘 ≺ over) ≡ p → (q : Bool) → (𝟘 ≺ under) ≡ q → Reaches (cond p over (cond q under 𝟘)) (x ⊖ y)
        go true e q k =
            let F = sub-fits binary64 g.lo h.hi in
            let N = over_zero over F e in
            reaches_size over (x ⊖ y) N (sub-fits binary64 x y)
            (gap_above binary64 over 𝟘 (T→true _ F) (number_held binary64 𝟘 zero_number) x y g.lo h.hi X Y G₀ H₁
            (itself over N) a d)
        go false e true k =
            let F = sub-fits binary64 h.lo g.hi in
            let N = over_zero under F k in
            reaches_size under (x ⊖ y) N (sub-fits binary64 x y)
            (gap_below binary64 under 𝟘 (T→true _ F) (number_held binary64 𝟘 zero_number) x y h.lo g.hi X Y H₀ G₁
            (itself under N) c b)
        go false e false k = reaches_nothing (x ⊖ y) (sub-fits binary64 x y)

-- ---- an edge and a segment
module _ (least : Float) (e : Edge) (q q' : Vertex) (gz gr hz hr : Range) (GZ : Has gz e.a.z e.b.z)
    (GR : Has gr e.a.r e.b.r) (HZ : Has hz q.z q'.z) (HR : Has hr q.r q'.r) where
  pub hopeless_segment : Hopeless (gap_between gz hz) (gap_between gr hr) least → ((segments e q q').distance ≺ least) ≡ false
  unfolding segments
  hopeless_segment w =
      let d = minus e.b e.a in
      let d' = minus q' q in
      let r = minus e.a q in
      let at = places_shares (dot d d) (dot d d') (dot d r) (dot d' d') (dot d' r) in
      w _ _ (sub-fits binary64 _ _) (sub-fits binary64 _ _)
      (gap_reaches gz hz _ _ (add-fits binary64 _ _) (add-fits binary64 _ _) GZ.low_end GZ.high_end HZ.low_end
      HZ.high_end
      (held_low gz _ _ GZ _ at.s) (held_high gz _ _ GZ _ at.s) (held_low hz _ _ HZ _ at.t) (held_high hz _ _ HZ _
      at.t))
      (gap_reaches gr hr _ _ (add-fits binary64 _ _) (add-fits binary64 _ _) GR.low_end GR.high_end HR.low_end
      HR.high_end
      (held_low gr _ _ GR _ at.s) (held_high gr _ _ GR _ at.s) (held_low hr _ _ HR _ at.t) (held_high hr _ _ HR _
      at.t))
