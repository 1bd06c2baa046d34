-- 01's axis test and band.
pub mod Axis
pub mod Band
