-- Bits of binary64 and the values that they stand for.
pub mod Bits
pub mod Special
