-- Demand 3 of every accepted cylinder across the spindle.
pub mod Accepted
pub mod Across
