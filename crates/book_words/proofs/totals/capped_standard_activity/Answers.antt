-- `book_words::totals::capped_standard_activity` meets its contract: the activity, or heads by the standard mass, capped. Assumes nothing.
use mathlib.Core.Path.{sym, ◌∙◌}
use Rattle.book_words.specs.Measures.{standard_activity}
use Rattle.book_words.proofs.CappedSums.{capped-times}
use Rattle.book_words.proofs.totals.capped_standard_activity.Goals as goal

pub returns : goal.returns
unfolding standard_activity
returns c =
    rw (sym c.is_freight.ensures ∙ c.if-is_freight.false, c.multiply-2.ensures, c.multiply.ensures, capped-times)
