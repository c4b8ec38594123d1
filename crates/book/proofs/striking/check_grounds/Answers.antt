-- `book::striking::check_grounds` meets its contract: the records that it reads decide. Assumes nothing.
use mathlib.Core.Path.{sym, ◌∙◌}
use Rattle.std.proofs.Common.{rules}
use Rattle.apportion.specs.Refusals.{number_of}
use Rattle.book.proofs.TestsAsGrounds.{struck-category, strike-grounds}
use Rattle.book.proofs.striking.check_grounds.Goals as goal

pub unwrap-category-requires : goal.unwrap-category-requires
unwrap-category-requires c =
    let read = sym c.numbered.ensures.value ∙ c.in_ok-e.ensures.ok_part in
    let named = c.numbered-2.ensures.value ∙ struck-category c.args.book.now c.args.entry c.numbered.ensures.book read in
    search rules

pub returns : goal.returns
returns c =
    strike-grounds c.args.book.now c.args.entry c.numbered.ensures.book (sym c.numbered.ensures.value ∙ c.in_ok-e.ensures.ok_part)
    (sym c.numbered-2.ensures.value ∙ c.unwrap-category.ensures) (rw (c.has_closed.ensures, c.is_struck.ensures) at (c.first_of.ensures number_of))
