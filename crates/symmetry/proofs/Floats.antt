-- Laws of floats over any format: the sign of a zero, the sign of a value, how a value is written, the lesser and the greater of
-- two.
pub mod Like
pub mod Signs
pub mod Written
pub mod Ends
