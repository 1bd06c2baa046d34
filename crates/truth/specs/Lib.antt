pub mod Exact
pub mod Points
pub mod Solid
pub mod Boxes
pub mod Cylinders
