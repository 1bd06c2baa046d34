-- Laws of the sides of a box and of edges that are passed over, which its functions' proofs use; of what is not read; and of the
-- edge that supplies its witness.
pub mod Outside
pub mod Passed
pub mod Held
pub mod Unread
pub mod Edges
