-- 02's lifted witness, what the queries of it answer, and what is shown of it.
pub mod Rule
pub mod Answers
pub mod Placed
