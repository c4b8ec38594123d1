-- What inner functions require and promise.
pub mod Table
pub mod Steps
