-- What inner functions promise: records that are to be appended, and ground 10 of them; elements of several chains.
pub mod Appending
pub mod Chains
