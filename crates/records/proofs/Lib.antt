-- The copying loop (FrontFilled), and too many vertices (TooMany).
pub mod FrontFilled
pub mod TooMany
