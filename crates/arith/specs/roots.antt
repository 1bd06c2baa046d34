-- What a reader has to believe of the roots: Roots. Steps is what the functions behind them promise each other.
pub mod Roots
pub mod Steps
