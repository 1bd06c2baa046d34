-- 01's walk: its samples, its steps. Cover is what is promised of every walk.
pub mod Walk
pub mod Cover
pub mod Steps
pub mod settings
pub mod bands
pub mod pieces
pub mod cylinders
