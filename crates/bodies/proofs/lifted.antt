-- The place of a lifted witness, of every accepted query.
pub mod Place
pub mod Accepted
