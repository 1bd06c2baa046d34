-- What settings that are taken are, and that the finest are taken.
pub mod Taken
