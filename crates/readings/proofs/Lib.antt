-- Document 01's readings: the table and its theorem. Verdicts of bars that lean.
pub mod Readings
pub mod Leaning
