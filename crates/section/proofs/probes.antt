-- Laws that the functions' proofs use.
pub mod Parity
pub mod Radii
