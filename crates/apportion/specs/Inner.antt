-- What inner functions require and promise.
pub mod Grounds
pub mod Products
pub mod Units
