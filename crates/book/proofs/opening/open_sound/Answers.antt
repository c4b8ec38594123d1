-- `book::opening::open_sound` meets its contract: the number decides between the refusal and the appended category.
-- Assumes nothing.
use mathlib.Core.List.{[]}
use mathlib.Core.Path.{sym, ◌∙◌}
use borrow.Author.Tests.{leb-false}
use Rattle.book_words.specs.Book.{most_categories, add_category}
use Rattle.book.specs.Calls.{open_reply, open_book}
use Rattle.book_words.proofs.SoundTests.{sound-counted}
use Rattle.book.proofs.AcceptedCalls.{opened}
use Rattle.book.proofs.TestsAsGrounds.{reply-handed, call-refused, call-accepted}
use Rattle.book.proofs.opening.open_sound.Goals as goal

pub returns-in_err-check_grounds-clause-value : goal.returns-in_err-check_grounds-clause-value
unfolding open_reply open_book
returns-in_err-check_grounds-clause-value c =
    reply-handed _ c.from_residual.result c.from_residual.ensures.1 ∙ (call-refused _ [] c.in_err-check_grounds.field-0.0 {old = []} (rw c.of.ensures at c.in_err-check_grounds.ensures)).0

pub returns-in_err-check_grounds-clause-book_after : goal.returns-in_err-check_grounds-clause-book_after
unfolding open_reply open_book
returns-in_err-check_grounds-clause-book_after c =
    (call-refused 0 _ c.in_err-check_grounds.field-0.0 (rw c.of.ensures at c.in_err-check_grounds.ensures)).1

pub append-requires : goal.append-requires
append-requires c =
    let none = opened c.args.book.now c.args.kind (sym (rw c.of.ensures at c.in_ok-check_grounds.ensures)) in
    ((sound-counted c.args.book.now c.requires).long, leb-false most_categories _ (none 8))

pub returns : goal.returns
unfolding open_reply open_book add_category
returns c =
    let accepted = call-accepted _ _ (rw c.of.ensures at c.in_ok-check_grounds.ensures) (c.append.ensures.value, c.append.ensures.book_after) in
    record { value = accepted.0; book_after = accepted.1 }
