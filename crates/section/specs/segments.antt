-- The closest points of segments, and 01's clip.
pub mod Segments
pub mod Clip
pub mod Hopeless
pub mod Legs
