-- The laws that the proofs of the load's functions share, and what is shown of every load.
pub mod Nonzero
pub mod Coordinates
pub mod Sequence
pub mod Numbered
pub mod Putting
pub mod Lines
pub mod Accepted
pub mod Answered
pub mod WholeInput
pub mod Ranges
