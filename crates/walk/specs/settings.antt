-- 02's settings of the walk.
pub mod Settings
