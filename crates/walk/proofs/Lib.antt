-- What every walk promises (Cover), demand 1 of it (Demand), and laws for the functions' proofs.
pub mod Cover
pub mod Demand
pub mod Sixteenths
pub mod Loop
