-- What the calls answer that take bodies as C gives them, and the verdict on a store. What a C caller gets is said in `handing`.
pub mod Calls
pub mod Reading
pub mod Version
pub mod lists
pub mod handing
pub mod given_edits
