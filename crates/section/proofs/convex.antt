-- Laws that the functions' proofs use, and of the edge that supplies a witness.
pub mod Flags
pub mod Carried
pub mod Outside
pub mod Edges
pub mod Window
