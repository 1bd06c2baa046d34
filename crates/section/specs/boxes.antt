-- 01's box distance.
pub mod Boxes
pub mod Steps
