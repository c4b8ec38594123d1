-- What a reader has to believe. `Inner` serves the contracts of inner functions.
pub mod Doubles
pub mod Cells
pub mod Lines
pub mod Inner
