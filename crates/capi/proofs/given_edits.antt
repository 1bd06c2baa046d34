-- An edit as it is given.
pub mod Edited
