-- What is turned down of a body alone; which case of a reply; what its query promises, kind by kind; that no distance is NaN; 01's lowest number.
pub mod Alone
pub mod Replied
pub mod OfKind
pub mod Number
pub mod Lowest
