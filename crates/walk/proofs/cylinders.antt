-- Demands 1 and 3 as what the query promises (Promise), at the finest settings too; x and y exchanged; laws for the functions' proofs.
pub mod Cover
pub mod Demand
pub mod Promise
pub mod Given
pub mod Lowest
pub mod Exchanged
pub mod Finest
