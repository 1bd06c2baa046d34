-- Demand 3, from the box of one piece up to the whole walk.
pub mod Boxes
pub mod Depth
pub mod Turns
pub mod Found
pub mod Counts
pub mod Least
pub mod Covers
