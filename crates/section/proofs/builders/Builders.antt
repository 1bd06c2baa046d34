-- Laws of the builders: the points that are kept, the space that they are written to, how they close, and the answers.
pub mod Keep
pub mod Space
pub mod Points
pub mod Closing
pub mod Kept
pub mod Accepted
pub mod Written
