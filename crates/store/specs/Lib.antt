-- 01's store, in its order: the bytes, the records, the chain, what reading a store answers, the kinds, the radii, the verdict on a store. Steps is what the
-- functions behind the entry points promise each other.
pub mod Bytes
pub mod Records
pub mod Chain
pub mod Answers
pub mod First
pub mod Kinds
pub mod Radii
pub mod Store
pub mod Steps
pub mod edits
