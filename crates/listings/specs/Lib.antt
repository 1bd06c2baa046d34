-- The listing of a store: what it is, and the functions that write it.
pub mod store_listing
