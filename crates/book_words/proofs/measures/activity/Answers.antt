-- `book_words::measures::activity` meets its contract: capped products are the capped product. Assumes nothing.
use mathlib.Core.Path.{sym, ◌∙◌}
use Rattle.book_words.specs.Measures.{activity_of}
use Rattle.book_words.proofs.CappedSums.{capped-times}
use Rattle.book_words.proofs.measures.activity.Goals as goal

pub returns-then-not-is_freight : goal.returns-then-not-is_freight
unfolding activity_of
returns-then-not-is_freight c =
    rw (sym c.is_freight.ensures ∙ c.if-not-is_freight.true, c.multiply-then-not-is_freight.ensures, c.multiply.ensures, capped-times)
