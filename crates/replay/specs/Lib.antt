-- What the contracts cite.
pub mod Bits
pub mod Kinds
pub mod Lines
pub mod Replies
pub mod Rows
