-- What two sections give together; what the nearer of two hits is; the sections in each other's place; how large counts are.
pub mod Together
pub mod Nearer
pub mod Swapped
pub mod Counts
