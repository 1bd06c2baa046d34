-- 02's trying of a move. Steps is only what functions below the entry point promise.
pub mod Placement
pub mod Moves
pub mod Steps
