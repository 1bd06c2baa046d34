-- 02's chuck and work together.
pub mod Pairs
