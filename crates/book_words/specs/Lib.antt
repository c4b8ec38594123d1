-- What a reader has to believe. `Inner` serves the contracts of the functions that the calls are made of.
pub mod Book
pub mod Measures
pub mod Totals
pub mod Mixture
pub mod Soundness
pub mod Inner
