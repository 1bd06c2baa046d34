-- 01's builders: which points are kept, and what each builder answers.
pub mod Builder
pub mod Kept
pub mod Steps
