-- What a reader has to believe of the numbers and of the roots.
pub mod F64
pub mod Num
pub mod Vector
pub mod Whole
pub mod roots
