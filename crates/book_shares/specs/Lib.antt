-- What a reader has to believe. `Inner` serves the contracts of inner functions.
pub mod Sums
pub mod Shares
pub mod Closing
pub mod Previews
pub mod Intensities
pub mod Inner
