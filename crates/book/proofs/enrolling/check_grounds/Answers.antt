-- `book::enrolling::check_grounds` meets its contract: its tests are the conditions of the grounds. Assumes nothing.
use mathlib.Core.Path.{sym, ◌∙◌}
use Rattle.std.proofs.Common.{rules}
use Rattle.apportion.specs.Refusals.{number_of}
use Rattle.apportion.proofs.Refusals.{handed-on}
use Rattle.book_words.specs.Book.{categories, category_at}
use Rattle.book_words.proofs.NumberedRecords.{numbered-some}
use Rattle.book.proofs.enrolling.check_grounds.Goals as goal

pub returns-in_err-first_of-clause-refusal : goal.returns-in_err-first_of-clause-refusal
returns-in_err-first_of-clause-refusal c =
    let there = numbered-some (categories c.args.book.now) (category_at c.args.book.now) c.args.e.category (sym c.numbered.ensures.value ∙ c.in_ok-category.ensures.ok_part) in
    handed-on c.in_err-first_of.field-0.0 _ c.from_residual-in_err-first_of.ensures.1
    ∙ c.in_err-first_of.ensures number_of
    ∙ rw (c.numbered.ensures.book, there.0) (search rules)

pub returns-clause-refusal : goal.returns-clause-refusal
returns-clause-refusal c = let first = c.in_ok-first_of.ensures number_of in search rules
