-- What the cylinder query answers; demands 1 and 3 of a hit. Steps is only what functions below the entry points promise.
pub mod Cylinders
pub mod Promised
pub mod Steps
