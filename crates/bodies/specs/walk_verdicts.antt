-- The verdict on a cylinder with what its walk counted.
pub mod WalkVerdicts
