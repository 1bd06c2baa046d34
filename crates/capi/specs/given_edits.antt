-- An edit as C gives it.
pub mod Editing
