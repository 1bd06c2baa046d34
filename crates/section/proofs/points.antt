-- Laws that the functions' proofs use, of distances as numbers, and of the edge that supplies a witness.
pub mod Numbers
pub mod Asked
pub mod Edges
pub mod Inside
pub mod Outside
pub mod Surface
