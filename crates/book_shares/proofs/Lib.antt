-- What the proofs over closings and intensities share, and the laws of closings.
-- what is known of an element of a sound book
pub mod ElementFacts
-- bounds of a category's sums
pub mod SumBounds
-- the loop that adds up the pools
pub mod PoolSums
-- a quotient that is made ten by ten
pub mod Quotients
-- fractions that a number is near to
pub mod Nearness
-- the shares that a closing writes: they add up, and are near the exact ones
pub mod ClosingShares
-- sums and divisions over the places of a category's elements
pub mod MemberSums
-- the results of an intensity by their quotients
pub mod IntensityResults
-- a slice that a loop fills from the front
pub mod FilledFront
-- what a closing changes in the records, and what it keeps
pub mod CloseWrites
-- what holds where a closing is accepted
pub mod CloseAccepted
-- parts that are added to the shares
pub mod PartsAdded
-- shares written at the places of a category's elements
pub mod ShareWrites
-- the words of pairs
pub mod Pairs
-- the pairs of a book, as shares are written in it
pub mod BookPairs
-- a closing that is worked out beside the book
pub mod WorkedOut
-- a closing leaves a sound book sound
pub mod CloseKeepsSound
-- the laws for the crates above
pub mod Laws
