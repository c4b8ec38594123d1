-- What the proofs over the words of a book share.
-- tests joined by `&&`, and choices by a test
pub mod Booleans
-- tests that every place passes
pub mod EveryPlace
-- soundness taken apart into its tests
pub mod SoundTests
-- capped sums, products and rounded quotients, which decide a comparison with a limit as those that are not capped do
pub mod CappedSums
-- ranges and tests as numbers, above all those of ground 7
pub mod Ranges
-- a capped sum that a loop adds up
pub mod SumLoop
-- the rules of a record
pub mod RecordRules
-- words after a write
pub mod WordsAfterWrite
-- records after a write
pub mod RecordsAfterWrite
-- a sound book as facts about its records and sums, and back
pub mod SoundRecords
-- the record of a number
pub mod NumberedRecords
-- records that are the same in two books, and the sums over them
pub mod SameRecords
-- the sums of ground 10 over a book with one record more
pub mod SumsAfterWrite
-- sums by keys
pub mod SumsByKey
-- the shares of a sound book, by categories and by chains
pub mod ShareSums
-- passengers of a category that are alike
pub mod Passengers
-- the walk that tests whether they are
pub mod PassengerWalk
-- folds over the places of a list
pub mod Folds
