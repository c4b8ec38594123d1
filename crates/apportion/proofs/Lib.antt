-- The laws of the dividing rule, and what the proofs of its functions share.
-- ordered grounds, each named by its number
pub mod Grounds
pub mod Refusals
-- sums and counts over places
pub mod Sums
-- lists over places
pub mod Lists
-- a number by its quotient and its remainder, and a product as a sum of powers
pub mod Powers
-- who gets a unit by a bound on the remainders
pub mod UnitsByBound
-- floors, remainders and units of a division, by its definition
pub mod FloorsAndUnits
-- a division over places of which some are left out
pub mod PlacesLeftOut
-- the loop that writes floors and remainders
pub mod FloorLoop
-- the loop that adds the units left over
pub mod UnitLoop
-- what an accepted division has
pub mod AcceptedDivision
-- rounding to the nearest whole number
pub mod Rounding
-- the laws for the crates above
pub mod Laws
