-- Bodies as C gives them.
pub mod Lists
