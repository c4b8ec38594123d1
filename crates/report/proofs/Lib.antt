-- What the proofs of this crate share, and the laws of a sheet.
-- texts put one behind the other
mod Puts
-- a number's digits
pub mod Decimals
-- chains that are met
mod MetChains
-- the table after the first elements
mod TableRows
-- the text of a sheet by its table
mod TableLines
-- the columns of a sheet
mod Columns
-- lines and their lengths
mod Lines
-- the last line of a sheet
mod LastLine
-- the laws for the crates above
pub mod Laws
