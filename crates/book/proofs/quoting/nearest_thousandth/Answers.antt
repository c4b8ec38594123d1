-- `book::quoting::nearest_thousandth` meets its contract: the thousands of the product and what is left of it, each
-- multiplied within 64 bits, make the amount. Assumes nothing.
use Rattle.book.proofs.QuotedAmounts.{amount-rounded}
use Rattle.book.proofs.quoting.nearest_thousandth.Goals as goal

pub returns : goal.returns
returns c =
    amount-rounded c.args.intensity c.args.product
    c.multiply-whole.ensures
    c.add-quotient.ensures
    c.added_by_rounding.ensures.value
    c.add.ensures
