-- `book_shares::handing_out::hand_out_to` meets its contract: up to a place in the list the elements have their shares.
-- Assumes nothing.
use Rattle.book_shares.specs.Inner.Steps.{share_at}
use Rattle.book_shares.proofs.ShareWrites.{Handing}
use Rattle.book_shares.proofs.handing_out.hand_out_to.Given as goal

abbrev pub invariant-loop-index : goal.invariant-loop-index
invariant-loop-index l = Handing l.first l.width l.members l.initial.words (share_at l.shares) l.index l.words
