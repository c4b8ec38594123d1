-- What a reader has to believe. `Inner` serves the contracts of inner functions.
pub mod Replies
pub mod Calls
pub mod Lines
pub mod Statements
pub mod Walk
pub mod ClassTotal
pub mod Inner
