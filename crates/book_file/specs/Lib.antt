-- What a reader has to believe. `Inner` serves the contracts of inner functions.
pub mod Bytes
pub mod File
pub mod Answers
pub mod Loading
pub mod Conserving
pub mod Reading
pub mod Inner
