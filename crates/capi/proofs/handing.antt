-- What an answer's case gives, an equal answer gives; what it puts into the lent places fits them.
pub mod Same
pub mod Fits
