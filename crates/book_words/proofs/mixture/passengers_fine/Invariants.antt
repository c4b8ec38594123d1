-- `book_words::mixture::passengers_fine` meets its contract: up to a place no element mixes, and what has been seen is remembered.
-- Assumes nothing.
use Rattle.book_words.proofs.PassengerWalk.{Remembered}
use Rattle.book_words.proofs.mixture.passengers_fine.Given as goal

abbrev pub invariant-loop-place : goal.invariant-loop-place
invariant-loop-place l = Remembered l.words l.place l.seen
