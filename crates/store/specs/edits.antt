-- Request (xiii): edits of a store in its space, in the request's order: what is written, the answer, and the edits of a list one
-- after the other. Steps is what the functions behind the entry point promise each other.
pub mod Written
pub mod Edits
pub mod Series
pub mod Steps
