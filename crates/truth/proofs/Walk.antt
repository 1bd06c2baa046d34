-- THE WALK'S ANSWER IS TRUE OF THE CYLINDER ACROSS THE SPINDLE, if box distance is true of boxes: never above the exact distance
-- by more than a margin, what box distance may be above it, and M 2 ^ -23, where M bounds every magnitude. The margin is min(R,
-- max(τ, √(2 R τ))) of an uncut walk, 0 of a cut one. In this order, u being 2 ^ -53 M:
--   Squares     comparisons of squares of whole numbers
--   HalfWidths  the computed half width against the exact circle: ρ² + d² is R² but for three roundings of a square
--   SpanErrors  the span moves no more than the half width, and 6 u
--   Margin      the variation of a piece no wider than τ is at most √(2 R τ) + 2 ^ 29 u, and of any piece R + 2 ^ 29 u
--   Place       the f64 nearest an exact z of the width lies in the rounded width, and u from it
--   Inside      an exact point of the cylinder lies over the computed span at that f64, widened by 2 ^ 29 u
--   Nearby      what is true of the points of a box is true of a point near it, in space
--   Seen        every measured piece is within the scale, and the whole width is one
--   Scales      the scales, from M = 1,024 mm to 01's limit, and specs/Cylinders in terms of keys
--   Boxed       a box that holds the span holds the point; Thin: of a radius up to 1e-15
--   Settled     an exact point of the cylinder lies in a measured and settled box, widened by 2 ^ 29 u
--   Bounded     no box distance is larger than 2 ^ 27 mm
--   Walk        uncut by the cover (demand 3), cut by the box of the whole width
--   Answers     the theorems: root-margin, walk-true, band-true, cylinder-true; across-true, at both reaches
--   Accepted    what the queries answer is true wherever they turn nothing down
--   Triangle    a point moved comes nearer by no more than it is moved
--   Leaning     the leaning cylinder lies no farther from the straightened one than half the lean, as computed, and 5 u
--   Verdicts    clear means clear, of both
--   Example     the margin is needed: a variation of 2 ^ -14 mm at a width of 2 ^ -30 mm
pub mod Squares
pub mod HalfWidths
pub mod SpanErrors
pub mod Margin
pub mod Place
pub mod Inside
pub mod Nearby
pub mod Seen
pub mod Scales
pub mod Boxed
pub mod Thin
pub mod Settled
pub mod Bounded
pub mod Walk
pub mod Answers
pub mod Accepted
pub mod Triangle
pub mod Leaning
pub mod Verdicts
pub mod Example
