-- Demand 1 of the cylinder query, over the definitions alone: every distance and witness is finite, and bounded. Every
-- box that is measured is in order.
pub mod Pieces
pub mod Samples
pub mod Walks
pub mod Ordered
