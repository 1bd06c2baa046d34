-- Roots of whole numbers: digits, rounding and nearness over any format; then what the functions find, at binary64.
pub mod Digits
pub mod Sticky
pub mod Unique
pub mod Rounds
pub mod Candidate
pub mod Inside
pub mod Bracket
pub mod SqrtCore
pub mod SqrtValue
pub mod HypotCore
pub mod HypotSticky
pub mod HypotValue
