-- Vertices of a profile, what is turned down and under which number, and what a call answers. Steps is only what functions below the entry points promise.
pub mod Vertices
pub mod Numbers
pub mod Refusals
pub mod Replies
pub mod Steps
