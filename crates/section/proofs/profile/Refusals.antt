-- Laws of the refusals: a test over a list, what is beyond the limit, tests in order, and what passes them.
pub mod AnyOf
pub mod Beyond
pub mod Ordered
pub mod Passed
pub mod Calls
