-- Demand 3, the laws that it is proved from, and the starred cases.
-- lists of what a function gives, and sums over them
pub mod TallyLists
-- the book read as a tally, and that the tally fed by the calls is it
pub mod BookAsTally
-- a category whose records add what they did has the sums that it had
pub mod SameSums
-- shares of closed categories stay near the exact ones
pub mod NearExact
-- the tally's sums are the book's
pub mod TallySums
-- demand 3, for every list of calls
pub mod Laws
-- the starred cases, computed
pub mod Starred
