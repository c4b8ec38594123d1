-- The laws of conversion, and what the proofs of its functions share.
-- a fraction written otherwise is converted alike, and so is a double with its value
pub mod SameValue
-- a fraction against its limit
pub mod FractionLimit
-- what the bits of a double spell
pub mod BitFields
-- a cell by its grounds, and a line by its cells
pub mod CellGrounds
-- the laws for the crates above
pub mod Laws
