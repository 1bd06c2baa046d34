-- A verdict that counts is the plain verdict, and its counts are within their limits.
pub mod Counted
