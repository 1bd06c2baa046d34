-- 02's test load, in its order: the state, the load and what is turned down, what the program prints. Steps is what the functions
-- behind the entry points promise each other.
pub mod Xorshift
pub mod Load
pub mod Printed
pub mod Steps
