-- Laws of loops and lists that the functions' proofs share, of the first smallest of several distances, of the refusals, and of the
-- answers.
pub mod Fold
pub mod Each
pub mod Steps
pub mod Numbers
pub mod Numbered
pub mod Nearest
pub mod Refusals
pub mod Replies
