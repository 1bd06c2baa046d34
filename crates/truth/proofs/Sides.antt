-- THE SIGN OF A REPORTED DISTANCE IS TRUE, for points and spheres, and so clear means clear of the solid. In this order:
--   Meet        where an edge meets a segment, in whole numbers: by which sides of which lines their ends lie on
--   Parity      an edge that does not meet the segment from p to q changes the two counts of crossings alike, but for its ends;
--               round the section these cancel
--   Crossing    the crossing lemma: where p is inside and q is not, or the other way round, some edge has a point on the segment
--               from p to q
--   Solid       so all that is nearer to p than the surface is inside where p is
--   Slope       the computed place of a crossing, in whole numbers: 13 u from the exact one
--   Sight       the same from the floats of a format, for an edge that runs up or down
--   Crosses     so 01 counts a crossing exactly where there is one, but for points within 13 u of the edge
--   Inside      01's even-odd rule is the exact one beside a plain section, where 77 u or more are reported
--   Clear       a point that is reported clear is outside, and clear of the solid; a point reported inside is, or lies by an axis
--               edge
--   Spheres     spheres, by the verdict
--   Space       the same in space
--   Sound       a section whose radii are 0 or at least 1/128 mm is plain
--   Judged      what is shown of a sphere that is judged clear
--   Answers     of every input that is not turned down: u is 2 ^ -33 mm, ε 2 ^ -27 mm, in space and for spheres 2 ^ -26 mm
--   Example     the hypotheses are met at a reading; without them the sign is not true: an input
pub mod Meet
pub mod Parity
pub mod Crossing
pub mod Solid
pub mod Slope
pub mod Sight
pub mod Crosses
pub mod Inside
pub mod Clear
pub mod Spheres
pub mod Space
pub mod Sound
pub mod Judged
pub mod Answers
pub mod Example
