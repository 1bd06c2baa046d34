-- 01's point distance and its sign, and the result of a body that may overlap the section.
pub mod Points
pub mod Steps
pub mod Overlap
