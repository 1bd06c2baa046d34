-- Distances of segments are f64.
pub mod Held
pub mod Legs
