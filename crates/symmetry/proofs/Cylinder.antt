-- A moved cylinder: its axis, what is turned down of it, its box, its band, its distance.
pub mod Axes
pub mod Refusals
pub mod AxialBoxes
pub mod Spans
pub mod Heights
pub mod Bands
pub mod Distances
