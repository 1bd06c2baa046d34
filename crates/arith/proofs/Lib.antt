-- The laws of rounding and of roots that callers cite, over any format.
pub mod Laws
