-- The distances of points and boxes do not see the sign of a zero.
pub mod Shapes
pub mod Segments
pub mod Points
pub mod Boxes
