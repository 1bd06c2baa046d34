-- 01's pieces of a cylinder's width. Steps is what is asked and promised of the arrays in which they wait.
pub mod Pieces
pub mod Steps
