-- What the functions that the calls are made of require and promise.
pub mod Steps
