-- A list of vertex records as a list of numbers, and what the C interface makes of an answer. Steps is only what functions below
-- the entry points promise.
pub mod Flattened
pub mod Replies
pub mod Steps
