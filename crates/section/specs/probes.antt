-- Parities of crossings at five probes, and the radii that they have.
pub mod Probes
pub mod Radii
