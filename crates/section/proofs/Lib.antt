-- Demand 1 over the definitions, and that no distance is a NaN.
pub mod Numbers
pub mod Demand
