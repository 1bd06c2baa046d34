-- Cylinders within 01's limit: the size and the order of their boxes, half widths and spans; directions, and x and y exchanged.
pub mod Limit
pub mod AxialBox
pub mod HalfWidth
pub mod Spans
pub mod Directions
pub mod Exchange
