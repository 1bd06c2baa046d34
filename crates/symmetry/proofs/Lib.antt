-- That a cylinder's query and verdict see neither the order of its ends nor the sides of the spindle on which it stands.
pub mod Floats
pub mod Section
pub mod Walks
pub mod Cylinder
pub mod Queries
pub mod Verdicts
pub mod Apart
