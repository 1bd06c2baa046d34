-- The pieces that wait (Stacked), and what is known at the ends of pieces (KnownEnds).
pub mod Stacked
pub mod KnownEnds
