-- `book_shares::weights::Members::weights` meets its contract: up to a place in the list the weights are those of the definition.
-- Assumes nothing.
use lib.ListN.{replicate}
use Rattle.apportion.specs.Places.{at}
use Rattle.book_words.specs.Book.{element_at}
use Rattle.book_shares.specs.Inner.Members.{activity_in, by_number}
use Rattle.book_shares.proofs.FilledFront.{Filling}
use Rattle.book_shares.proofs.weights.Members.weights.Given as goal

abbrev pub invariant-loop-index : goal.invariant-loop-index
invariant-loop-index l = Filling (λ i. activity_in (by_number l.recipients) (element_at l.self.book.now (at l.self.places.now i))) (replicate 256 0) l.index l.weights
