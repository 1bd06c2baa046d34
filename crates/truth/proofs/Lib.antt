-- How far the answers are from the exact solid. `Points`: the magnitude, of points and spheres. `Sides`: the sign, and so the
-- solid. `Boxes`: box distance, of the section's edges, and so of the solid. `Walk`: what a walk makes of true box distances.
-- `Cylinders`: both together.
pub mod Places
pub mod Points
pub mod Sides
pub mod Boxes
pub mod Walk
pub mod Cylinders
