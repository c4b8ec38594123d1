-- `book_shares::intensities::quotient` meets its contract: the amount with some of its tens is held by its quotient and
-- remainder, ten by ten. Assumes nothing.
use Rattle.book_shares.proofs.Quotients.{Shifting}
use Rattle.book_shares.proofs.intensities.quotient.Given as goal

abbrev pub invariant-loop : goal.invariant-loop
invariant-loop l = Shifting l.amount l.total l.whole l.rest l.counter
