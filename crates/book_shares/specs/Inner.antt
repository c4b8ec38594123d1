-- What inner functions require and promise: `Members` the elements of a category by their places, `Steps` the steps of a closing and
-- of an intensity.
pub mod Members
pub mod Steps
