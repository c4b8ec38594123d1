-- What inner functions require and promise.
pub mod Operations
