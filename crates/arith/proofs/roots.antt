-- Rounding by keys, roots of whole numbers over any format, and what the proofs of the functions share.
pub mod Halves
pub mod Numbers
pub mod Squares
pub mod Tests
pub mod Rounding
pub mod Root
pub mod Pattern
