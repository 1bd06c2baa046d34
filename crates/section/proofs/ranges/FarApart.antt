-- An edge whose computed points lie as far from a point along one axis as the best so far is not nearer. By the ranges that hold
-- the points, and the law that what a gap reaches a hypot reaches. One range holds the points of a box's four sides.
use Prim.Native.Nat.{ℕ, ◌+◌, ◌≤◌}
use native.Mathlib.Nat.{le_of_eq, le_trans}
use native.Mathlib.Omega.{arith}
use mathlib.Core.Bool.{Bool, true, false, not, cond, ◌||◌, or-true}
use mathlib.Core.Path.{◌≡◌, refl, subst, sym, ◌∙◌}
use borrow.Author.Tests.{le-ltb}
use lib.Dec.{T, lit≤}
use lib.Ieee.{Float, nan, inf, fin, binary64, fits, lt, neg, of_bits}
use lib.Ieee.Fits.{and_i, add-fits, div-fits, nan-fits, sub-fits}
use Rattle.arith.specs.roots.Roots.{hypot}
use Rattle.arith.proofs.roots.Rounding.Key.{finite_number, key, magnitude, mid, number, number_of, unit}
use Rattle.arith.proofs.roots.Rounding.KeyOrder.{lt_key, nlt→key}
use Rattle.arith.specs.F64.{◌⊕◌, ◌⊖◌, ◌⊗◌, ◌⊘◌, ◌≺◌, ◌≼◌, 𝟘, 𝟙, e_18, e_24}
use Rattle.arith.specs.Num.{abs, is_finite}
use Rattle.arith.proofs.Laws.Along.{Share, no_number, share}
use Rattle.arith.proofs.Laws.Gap.{gap_above, gap_below}
use Rattle.arith.proofs.Laws.Hypot.{hypot_comm}
use Rattle.arith.proofs.Laws.OrderHeld.{not_less_nan, number_held}
use Rattle.arith.proofs.Laws.Sizes.{finite_number_lem, one_finite, zero_finite, zero_key, zero_number}
use Rattle.section.specs.declared.profile.shapes.Vertex.{Vertex}
use Rattle.section.proofs.profile.Steps.{pick}
use Rattle.section.specs.segments.Segments.{apart, closest_places, closest_point, dot, minus, places, unit_clamp}
use Rattle.section.specs.declared.segments.shapes.Places.{Places}
use Rattle.section.proofs.segments.Legs.{not_below_itself}
use Rattle.section.specs.ranges.Ranges.{far_apart, range, range_of, sides_range}
use Rattle.section.specs.declared.ranges.shapes.Range.{Range}
use Rattle.section.proofs.ranges.Ranges.{Ended, Holds, held_first, held_second, joined_ended, range_ended}
use Rattle.section.proofs.ranges.Ranges.{range_holds, range_starts, stays}

-- ---- how far along two segments: from 0 to 1, or a NaN
one_key : key binary64 𝟙 ≤ mid binary64 + unit binary64
unfolding mid key magnitude unit of_bits
one_key = lit≤ tt

pub neither : (x : Float) → T (fits binary64 x) → T (not (x ≺ 𝟘)) → T (not (𝟙 ≺ x)) → Share binary64 x
neither nan X h k = no_number refl
neither (inf true) X h k = absurd (unfold lt of_bits in h)
neither (inf false) X h k = absurd (unfold lt of_bits in k)
neither (fin s m i) X h k =
    let F : T (finite_number binary64 (fin s m i)) = and_i (fits binary64 (fin s m i)) true X tt in
    let N = number_of binary64 (fin s m i) F in
    share F
    (le_trans (le_of_eq (sym zero_key)) (nlt→key binary64 (fin s m i) 𝟘 N zero_number h))
    (le_trans (nlt→key binary64 𝟙 (fin s m i) (finite_number_lem one_finite) N k) one_key)

pub share_held : (x : Float) → Share binary64 x → T (fits binary64 x)
share_held x (no_number e) = subst (λ (t : Float). T (fits binary64 t)) (sym e) (nan-fits binary64)
share_held x (share F l m) = number_held binary64 x (number_of binary64 x F)

pub share_least : (x : Float) → Share binary64 x → (x ≺ 𝟘) ≡ false
unfolding lt
share_least x (no_number e) = rw e
share_least x (share F l m) =
    lt_key binary64 x 𝟘 (number_of binary64 x F) zero_number ∙ le-ltb _ _ (le_trans (le_of_eq zero_key) l)

key_one : mid binary64 + unit binary64 ≤ key binary64 𝟙
unfolding mid key magnitude unit of_bits
key_one = lit≤ tt

pub share_most : (x : Float) → Share binary64 x → (𝟙 ≺ x) ≡ false
share_most x (no_number e) = rw e (not_less_nan 𝟙)
share_most x (share F l m) =
    lt_key binary64 𝟙 x (finite_number_lem one_finite) (number_of binary64 x F) ∙ le-ltb _ _ (le_trans m key_one)

zero_share : Share binary64 𝟘
zero_share =
    share (zero_finite 0).bounded.sure (le_of_eq (sym zero_key))
    (zero_most (key binary64 𝟘) (mid binary64) (unit binary64) zero_key)
  where
    zero_most : (k m u : ℕ) → k ≡ m → k ≤ m + u
    zero_most k m u e = omega arith

one_share : Share binary64 𝟙
unfolding mid key magnitude unit of_bits
one_share = share one_finite.bounded.sure (lit≤ tt) one_key

clamped_share : (x : Float) → T (fits binary64 x) → Share binary64 (unit_clamp x)
clamped_share x X =
    pick (Share binary64) (x ≺ 𝟘) (λ h. zero_share) (λ h. pick (Share binary64) (𝟙 ≺ x) (λ k. one_share) (λ k. neither x X h k))

pub record Shares (p : Places) : Type 0 where
  pub s : Share binary64 p.s
  pub t : Share binary64 p.t

module _ (a b c e f : Float) where
  quotient : (x y : Float) → Share binary64 (unit_clamp (x ⊘ y))
  quotient x y = clamped_share (x ⊘ y) (div-fits binary64 x y)

  pub places_shares : Shares (closest_places a b c e f)
  unfolding closest_places
  places_shares =
      pick Shares (a ≼ e_24)
      (λ g. pick Shares (e ≼ e_24) (λ h. record { s = zero_share; t = zero_share })
      (λ h. record { s = zero_share; t = quotient f e }))
      (λ g. pick Shares (e ≼ e_24) (λ h. first_end)
      (λ h. pick Shares (t ≺ 𝟘) (λ k. first_end)
      (λ k. pick Shares (𝟙 ≺ t) (λ l. record { s = quotient (b ⊖ c) a; t = one_share })
      (λ l. record { s = start; t = neither t (div-fits binary64 (b ⊗ s ⊕ f) e) k l }))))
    where
      den : Float
      den = a ⊗ e ⊖ b ⊗ b

      s : Float
      s = cond (e_18 ≺ abs den) (unit_clamp ((b ⊗ f ⊖ c ⊗ e) ⊘ den)) 𝟘

      t : Float
      t = (b ⊗ s ⊕ f) ⊘ e

      start : Share binary64 s
      start = pick (Share binary64) (e_18 ≺ abs den) (λ h. quotient (b ⊗ f ⊖ c ⊗ e) den) (λ h. zero_share)

      first_end : Shares (places (unit_clamp (neg c ⊘ a)) 𝟘)
      first_end = record { s = quotient (neg c) a; t = zero_share }

-- ---- two numbers from ranges far apart, as a leg
held : (x : Float) → T (number binary64 x) → T (fits binary64 x)
held = number_held binary64

-- f64 holds both ends, which may be NaNs
record HeldEnds (g : Range) : Type 0 where
  low : T (fits binary64 g.lo)
  high : T (fits binary64 g.hi)

ends : (g : Range) → Ended g → HeldEnds g
ends g G = record { low = held g.lo G.low; high = held g.hi G.high }

module _ (least : Float) (B : fits binary64 least ≡ true) (g h : Range) (G : HeldEnds g) (H : HeldEnds h)
    (x y z : Float) (X : T (fits binary64 x)) (Y : T (fits binary64 y)) (Z : T (fits binary64 z))
    (P : Holds g x) (Q : Holds h y) where
  far_not_less : far_apart least g h ≡ true → (hypot binary64 (x ⊖ y) z ≺ least) ≡ false
  unfolding far_apart
  far_not_less e = go (least ≼ g.lo ⊖ h.hi) refl e
    where
      go : (t : Bool) → (least ≼ g.lo ⊖ h.hi) ≡ t → (t || (least ≼ h.lo ⊖ g.hi)) ≡ true
          → (hypot binary64 (x ⊖ y) z ≺ least) ≡ false
      go true k e = gap_above binary64 least z B Z x y g.lo h.hi X Y G.low H.high k P.low Q.high
      go false k e = gap_below binary64 least z B Z x y h.lo g.hi X Y H.low G.high e Q.low P.high

-- ---- a point and an edge
-- both computed ends of a segment lie as far from x, to one side
module _ (least a b x : Float) (F : is_finite (b ⊖ a) ≡ true) where
  abbrev gap : Range → Bool
  gap g = (least ≼ x ⊖ g.hi) || (least ≼ g.lo ⊖ x)

  pub far_over : (least ≼ a ⊖ x) ≡ true → (least ≼ a ⊕ (b ⊖ a) ⊖ x) ≡ true → far_apart least (range x x) (range_of a b) ≡ true
  unfolding far_apart range_of
  far_over p q = rw F (go (b ⊖ a ≺ 𝟘))
    where
      go : (t : Bool) → gap (cond t (range (a ⊕ (b ⊖ a)) a) (range a (a ⊕ (b ⊖ a)))) ≡ true
      go true = rw q (or-true (least ≼ x ⊖ a))
      go false = rw p (or-true (least ≼ x ⊖ (a ⊕ (b ⊖ a))))

  pub far_under : (least ≼ x ⊖ a) ≡ true → (least ≼ x ⊖ (a ⊕ (b ⊖ a))) ≡ true → far_apart least (range x x) (range_of a b) ≡ true
  unfolding far_apart range_of
  far_under p q = rw F (go (b ⊖ a ≺ 𝟘))
    where
      go : (t : Bool) → gap (cond t (range (a ⊕ (b ⊖ a)) a) (range a (a ⊕ (b ⊖ a)))) ≡ true
      go true = rw p
      go false = rw q

pub at_itself : (x : Float) → T (fits binary64 x) → Holds (range x x) x
at_itself x X = record { low = not_below_itself x X; high = not_below_itself x X }

module _ (least : Float) (B : fits binary64 least ≡ true) (p a b : Vertex) where
  abbrev NotUnder : Vertex → Type 0
  NotUnder q = (apart p q ≺ least) ≡ false

  far_z : T (fits binary64 a.z) → T (fits binary64 p.z)
      → far_apart least (range p.z p.z) (range_of a.z b.z) ≡ true
      → (q : Vertex) → T (fits binary64 q.z) → Holds (range_of a.z b.z) q.z → NotUnder q
  far_z A P far q Q h =
      far_not_less least B _ _ (record { low = P; high = P }) (ends _ (range_ended a.z b.z A)) _ _ _ P Q
      (sub-fits binary64 _ _) (at_itself p.z P) h far

  far_r : T (fits binary64 a.r) → T (fits binary64 p.r)
      → far_apart least (range p.r p.r) (range_of a.r b.r) ≡ true
      → (q : Vertex) → T (fits binary64 q.r) → Holds (range_of a.r b.r) q.r → NotUnder q
  far_r A P far q Q h =
      rw (hypot_comm binary64)
      (far_not_less least B _ _ (record { low = P; high = P }) (ends _ (range_ended a.r b.r A)) _ _ _ P Q
      (sub-fits binary64 _ _) (at_itself p.r P) h far)

  pub far_from_z : T (fits binary64 a.z) → T (fits binary64 p.z)
      → far_apart least (range p.z p.z) (range_of a.z b.z) ≡ true → NotUnder (closest_point p a b)
  unfolding closest_point
  far_from_z A P far =
      let d = minus b a in
      pick NotUnder (dot d d ≼ e_24) (λ h. far_z A P far a A (range_starts a.z b.z A))
      (λ h. far_z A P far _ (add-fits binary64 _ _)
      (range_holds a.z b.z A _ (clamped_share _ (div-fits binary64 _ _))))

  pub far_from_r : T (fits binary64 a.r) → T (fits binary64 p.r)
      → far_apart least (range p.r p.r) (range_of a.r b.r) ≡ true → NotUnder (closest_point p a b)
  unfolding closest_point
  far_from_r A P far =
      let d = minus b a in
      pick NotUnder (dot d d ≼ e_24) (λ h. far_r A P far a A (range_starts a.r b.r A))
      (λ h. far_r A P far _ (add-fits binary64 _ _)
      (range_holds a.r b.r A _ (clamped_share _ (div-fits binary64 _ _))))

-- ---- the four sides of a box: from a to b, at b, from b to a, at a
module _ (a b : Float) (A : T (fits binary64 a)) (C : T (fits binary64 b)) where
  pub sides_ended : Ended (sides_range a b)
  unfolding sides_range
  sides_ended = joined_ended _ _ (range_ended a b A) (range_ended b a C)

  first : (x : Float) → T (fits binary64 x) → Holds (range_of a b) x → Holds (sides_range a b) x
  unfolding sides_range
  first = held_first _ _ (range_ended a b A) (range_ended b a C)

  second : (x : Float) → T (fits binary64 x) → Holds (range_of b a) x → Holds (sides_range a b) x
  unfolding sides_range
  second = held_second _ _ (range_ended a b A) (range_ended b a C)

  module _ (t : Float) (S : Share binary64 t) where
    pub there : Holds (sides_range a b) (a ⊕ (b ⊖ a) ⊗ t)
    there = first _ (add-fits binary64 _ _) (range_holds a b A t S)

    pub up : Holds (sides_range a b) (b ⊕ (b ⊖ b) ⊗ t)
    up = stays _ sides_ended b t C S (second b C (range_starts b a C))

    pub back : Holds (sides_range a b) (b ⊕ (a ⊖ b) ⊗ t)
    back = second _ (add-fits binary64 _ _) (range_holds b a C t S)

    pub down : Holds (sides_range a b) (a ⊕ (a ⊖ a) ⊗ t)
    down = stays _ sides_ended a t A S (first a A (range_starts a b A))
