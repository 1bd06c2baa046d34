-- Demand 1 of every query, over the definitions alone: no distance is NaN, and all that is answered is bounded.
pub mod AtMost
pub mod Bounds
pub mod Hits
pub mod Segments
pub mod Clip
pub mod Points
pub mod Boxes
pub mod Convex
pub mod Accepted
pub mod Queries
pub mod Built
