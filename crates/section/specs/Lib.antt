-- What the queries answer, and what every accepted query is shown to give.
pub mod Answers
pub mod Demand
pub mod profile
pub mod builders
pub mod segments
pub mod ranges
pub mod points
pub mod probes
pub mod boxes
pub mod convex
