-- What a reader has to believe. `Inner` serves the contracts of inner functions.
pub mod Places
pub mod Grounds
pub mod Refusals
pub mod Dividing
pub mod Fractions
pub mod Nearness
pub mod Inner
