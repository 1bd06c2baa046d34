-- BOX DISTANCE IS NEVER REPORTED FAR OVER THE EXACT ONE: of every section and box, Answers; at either scale, and for the walk's
-- boxes, Sections. u is 2 ^ e units, coordinates are within 2 ^ 53 u, ε is 2 ^ 31 u: 2 ^ -22 of their bound (2 ^ -12 mm at
-- 1,024 mm, 2 ^ -2 mm at 01's limit). FlatRoof: it is not so true as points are. In this order:
--   Across    what a place on the edge loses, across the side, to any other: at most the edge's extent across it, |B - A|; or, by
--       the quotient's residual, ε ε / |B - A|
--   Beside    so the distance at that place, or the corner's where the place lies beyond a corner, exceeds the exact one to no
--       point of the side by more than ε
--   Signed    errors of products, sums and differences of signed numbers
--   Chain     of a, b, c, e, f, of b f - c e and of a e - b b, with every error a share of the side's length squared, however
--       short the side is
--   Place     the residual of their quotient: at most 1024 K u u; a denominator that is not positive, or under 1e-18 beside a
--       side that is not thin: the edge is flat
--   Floats    the operations of f64 as Signed wants them; Taken: the s that the code takes
--   Along     the place t on the side: the two points lie 51 u apart along it, and a t below 0 or over 1 says that the edge's
--       point lies beyond that corner
--   Points    the two points, and their reported distance: 109 u
--   Turns     a side that runs either way; Axis, OnSide: a side parallel to an axis, in f64; Sides: 01's closest_places
--   Lengths   what is asked of the scale and of a side's length; Scales: the scales;
--       Scaled: sides that are long enough at each
--   Corner    a corner against the edge, from the residual of its place; Relative: the dot products; Nearest: the place; Corners:
--       both ends of a side, true within 256 u
--   Short     an edge so short that 1e-24 counts; Thin: a side that is not taken for a point is not so short that Chain fails
--   Segments  01's two segments, the second along z or along r: clear of a side that is not thin, and what a side of any length
--       tells
--   Outline   from four sides every point of the box; Clipped: an edge inside the box; EdgeBox: an edge and a box that is wide
--       both ways; FromCorner: a point that is moved; AnyBox: any box, whose thin
--       lengths are lost
--   Gap       the least over the edges, and the result that is made of it; Sections: at both reaches
--   Solid     from the edges to the solid: a box that meets no edge is all in or all out; Centre: its middle is out;
--             SolidSections
--   Answers   what the box query answers; Verdicts: a box that is judged clear; Example, SolidExample: one of 01's readings
pub mod Across
pub mod Beside
pub mod Signed
pub mod Chain
pub mod Place
pub mod Floats
pub mod Taken
pub mod Along
pub mod Points
pub mod Turns
pub mod Lengths
pub mod Axis
pub mod OnSide
pub mod Sides
pub mod Scales
pub mod Scaled
pub mod Corner
pub mod Relative
pub mod Nearest
pub mod Corners
pub mod Short
pub mod Thin
pub mod Segments
pub mod Outline
pub mod Clipped
pub mod EdgeBox
pub mod FromCorner
pub mod AnyBox
pub mod Gap
pub mod Sections
pub mod Solid
pub mod Centre
pub mod SolidSections
pub mod Answers
pub mod Verdicts
pub mod Example
pub mod SolidExample
pub mod FlatRoof
