-- THE REPORTED DISTANCE IS TRUE, for points and spheres: over exact numbers, never above the exact geometric distance by more
-- than ε, and never below the distance to the edge that it names by more than ε. In this order:
--   Error       the error of one rounding, as a share of what is rounded and absolute, over any format
--   Ops         the same of +, -, *, / and hypot, their operands as keys
--   Lagrange    |p - q(t)|² |d|² = cross² + (t |d|² - w · d)²: squares of differences of whole numbers
--   Side        one coordinate, in whole numbers: errors of the two products and of the foot, for a segment that runs up or down
--   Dots        both coordinates: the errors of w · d and d · d
--   Residual    what the rounded and clamped quotient misses the exact foot by: 27 u for each unit of |d|, or so on the side that
--               counts
--   Foot        so it loses no more than 38.2 u to any other point of the segment
--   Reported    with the errors of the foot (8 u in each coordinate) and of hypot (8 u): 64 u in all; the other way 24 u
--   Coordinate  the hypotheses of Side, from the floats of a format
--   Segment     the closest point of a segment, over any format
--   Places      what specs/Exact counts is what the roundings count
--   Closest     01's closest point at binary64, and the scales e for which the theorem is stated: u is 2 ^ e units, edges within
--               2 ^ 53 u
--   Points      01's point distance; Spheres: 01's sphere distance; Space: the same of the turned surface in space
--   Answers     of every input that is not turned down: ε is 2 ^ -27 mm, in space and for spheres 2 ^ -26 mm
--   Verdicts    clear means clear
--   Example     its hypotheses are met at a reading
--   FlatRoof    boxes are not so true: an input
pub mod Lagrange
pub mod Side
pub mod Dots
pub mod Residual
pub mod Foot
pub mod Reported
pub mod Coordinate
pub mod Segment
pub mod Closest
pub mod Distance
pub mod Spheres
pub mod Circle
pub mod Space
pub mod Accepted
pub mod Answers
pub mod Verdicts
