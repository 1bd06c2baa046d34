-- 01's convex body distance, and what functions below it promise each other.
pub mod Convex
pub mod Steps
