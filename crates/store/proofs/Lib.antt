-- The laws that the proofs of the store's functions share.
pub mod Patterns
pub mod Lists
pub mod LowFirst
pub mod Handed
pub mod Filling
pub mod Following
pub mod Ending
pub mod Gathering
pub mod Reading
pub mod Numbers
pub mod Axis
pub mod Lengths
pub mod ReadBack
pub mod Sums
