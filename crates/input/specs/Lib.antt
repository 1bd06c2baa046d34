-- What reading into a lent buffer promises.
pub mod Input
