-- One rounding, from fractions of whole numbers up to the operations of a format.
pub mod Fraction
pub mod Nearest
pub mod Key
pub mod KeyOrder
pub mod RoundKey
pub mod Sum
pub mod Product
pub mod Quotient
