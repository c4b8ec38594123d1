-- `book_shares::closings::work_out` meets its contract: the shares of each side are 0 before they are written. Assumes nothing.
use Rattle.book_words.specs.declared.totals.Side.TheVariants.{Operation as operation, Provision as provision}
use Rattle.book_shares.proofs.closings.work_out.Goals as goal

pub set_shares-requires-clause-zeros : goal.set_shares-requires-clause-zeros
set_shares-requires-clause-zeros c = c.requires operation

pub set_shares-requires-2-clause-zeros : goal.set_shares-requires-2-clause-zeros
set_shares-requires-2-clause-zeros c = c.requires provision
