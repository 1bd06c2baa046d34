-- The laws of reading on.
pub mod Behind
pub mod Whole
