-- Laws of the builders, and the lowest number.
pub mod Builders
pub mod Lowest
