-- Where the computed points of a segment lie along one axis, and those of a box's four sides; and when one side of a box alone
-- leaves nothing of a segment. Only what functions below the entry points promise each other: no answer is defined by it.
use Rattle.std.specs.Prelude.{Bool, false, cond, ◌||◌, ◌≡◌, T, Float}
use Rattle.std.specs.Float.{binary64}
use Rattle.std.specs.Float.Ieee.{fits, neg}
use Rattle.arith.specs.F64.{◌⊕◌, ◌⊖◌, ◌⊗◌, ◌⊘◌, ◌≺◌, ◌≼◌, 𝟘, 𝟙, ∞, e_15, e_18}
use Rattle.arith.specs.Num.{abs, is_finite, max, min}
use Rattle.section.specs.declared.profile.shapes.Aabb.{Aabb}
use Rattle.section.specs.declared.profile.shapes.Vertex.{Vertex}
use Rattle.section.specs.declared.ranges.shapes.Range.{Range}
use Rattle.section.specs.declared.ranges.shapes.Sides.{Sides}

abbrev pub range : Float → Float → Range
range lo hi = record { lo = lo; hi = hi }

-- from a to a + (b - a), or everything where b - a is not finite
unfoldable pub range_of : Float → Float → Range
range_of a b =
    let d = b ⊖ a in
    cond (is_finite d) (cond (d ≺ 𝟘) (range (a ⊕ d) a) (range a (a ⊕ d))) (range (neg ∞) ∞)

unfoldable pub joined : Range → Range → Range
joined g h = range (min g.lo h.lo) (max g.hi h.hi)

-- the four sides of a box from a to b: there and back; the other two stay at a and at b
unfoldable pub sides_range : Float → Float → Range
sides_range a b = joined (range_of a b) (range_of b a)

abbrev pub sides_of : Aabb → Sides
sides_of x = record { z = sides_range x.z0 x.z1; r = sides_range x.r0 x.r1 }

-- along both axes, those of a segment from a to b
abbrev pub ranges_of : Vertex → Vertex → Sides
ranges_of a b = record { z = range_of a.z b.z; r = range_of a.r b.r }

-- h has every computed point of a segment from a to b: for no t from 0 to 1 does it lie below, or above
pub record Has (h : Range) (a b : Float) : Type 0 where
  pub low_end : T (fits binary64 h.lo)
  pub high_end : T (fits binary64 h.hi)
  pub low : (t : Float) → T (fits binary64 t) → (t ≺ 𝟘) ≡ false → (𝟙 ≺ t) ≡ false → (a ⊕ (b ⊖ a) ⊗ t ≺ h.lo) ≡ false
  pub high : (t : Float) → T (fits binary64 t) → (t ≺ 𝟘) ≡ false → (𝟙 ≺ t) ≡ false → (h.hi ≺ a ⊕ (b ⊖ a) ⊗ t) ≡ false

-- how far two ranges lie apart, as rounded; 0 where they do not
unfoldable pub gap_between : Range → Range → Float
gap_between g h =
    let over = g.lo ⊖ h.hi in
    let under = h.lo ⊖ g.hi in
    cond (𝟘 ≺ over) over (cond (𝟘 ≺ under) under 𝟘)

-- two ranges lie at least this far apart, as rounded
unfoldable pub far_apart : Float → Range → Range → Bool
far_apart least g h = (least ≼ g.lo ⊖ h.hi) || (least ≼ h.lo ⊖ g.hi)

-- one side of a box, p and q as `clip_side` has them, alone leaves nothing of a segment
unfoldable pub side_misses : Float → Float → Bool
side_misses p q =
    cond (𝟘 ≼ q) false (cond (abs p ≼ e_18) (q ≺ neg e_15) (cond (p ≺ 𝟘) (𝟙 ≺ q ⊘ p) (q ⊘ p ≺ 𝟘)))

-- one of the two sides across one axis does so: the segment runs from a to b, the box from lo to hi
unfoldable pub misses_along : Float → Float → Float → Float → Bool
misses_along a b lo hi = side_misses (neg (b ⊖ a)) (a ⊖ lo) || side_misses (b ⊖ a) (hi ⊖ a)
