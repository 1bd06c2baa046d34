-- The cylinders that have the same answer, and what that is.
pub mod Moved
pub mod Alike
