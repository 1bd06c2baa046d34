-- 01's listing of a store, its text. Steps is what the functions behind the entry points promise each other.
pub mod Text
pub mod Answers
pub mod Listing
pub mod Steps
