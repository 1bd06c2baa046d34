-- 01's verdict, and 02's tilt in it.
pub mod Tilt
pub mod Verdicts
