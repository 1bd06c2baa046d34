-- What the tilt does to a distance, and to a verdict.
pub mod Less
pub mod Judged
