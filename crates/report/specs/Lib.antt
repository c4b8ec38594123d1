-- What a reader has to believe. `Inner` serves the contracts of inner functions.
pub mod Text
pub mod Printing
pub mod Sheet
pub mod Inner
