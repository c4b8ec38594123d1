-- `book_words::soundness::shares_fine` meets its contract: in a closed category the capped sums are compared. Assumes nothing.
use mathlib.Core.Path.{sym, ◌∙◌}
use Rattle.std.proofs.lemmas.Bool.{eqb-false, not-true}
use Rattle.book_words.specs.Totals.{shares_of, unstruck_of}
use Rattle.book_words.proofs.RecordRules.{shares_closed}
use Rattle.book_words.proofs.soundness.shares_fine.Goals as goal

pub returns : goal.returns
unfolding shares_of unstruck_of
returns c =
    c.eq.ensures
    ∙ rw (c.capped_amounts_of.ensures, c.capped_amounts_of-2.ensures)
    (shares_closed _ _ _ c.record_at-r.ensures.value (eqb-false _ _ (not-true _ (sym c.has_closed.ensures ∙ c.if-not-has_closed.false))) c.requires.limited)
