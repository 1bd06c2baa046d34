-- The laws that the proofs of the listing's functions share, and 01's example.
pub mod Writing
pub mod Digits
pub mod Pieces
pub mod Largest
pub mod Own
pub mod Listed
pub mod Inputs
pub mod Example
