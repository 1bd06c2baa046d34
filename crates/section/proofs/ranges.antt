-- What ranges hold; an edge far along one axis, or by both, is not nearer; a side that misses leaves no clip; a search that
-- starts over what it meets.
pub mod Ranges
pub mod FarApart
pub mod Apart
pub mod HeldEdges
pub mod FarOff
pub mod Missed
pub mod Nearest
