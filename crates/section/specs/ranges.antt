-- Where the computed points of edges, sides and polygons lie, and a search that starts over what it meets.
pub mod Ranges
pub mod Hull
pub mod Search
