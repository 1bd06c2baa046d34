-- What the C functions return and leave in the places that they are lent.
pub mod Interface
pub mod Lifting
pub mod Pairs
pub mod Moves
pub mod Walks
