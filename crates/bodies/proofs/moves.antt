-- The order of floats, and zero in a placement; tests of one step after the other; what a move was given; the report's fields and
-- its smallest distance; the loop over the steps; the answer and the single calls; a move with equal offsets.
pub mod Order
pub mod Zero
pub mod Ordered
pub mod Given
pub mod Fields
pub mod Smallest
pub mod Turns
pub mod Single
pub mod Still
