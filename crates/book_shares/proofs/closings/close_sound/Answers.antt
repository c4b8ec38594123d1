-- `book_shares::closings::close_sound` meets its contract: the elements that are listed are those of the category and fit the arrays, and
-- where no ground holds, the shares that are worked out are handed out. Assumes nothing.
use mathlib.Core.Path.{◌≡◌, sym, ◌∙◌}
use native.Mathlib.Omega.{arith}
use Rattle.book_words.specs.Book.{categories}
use Rattle.book_shares.specs.Closing.{close_refusal}
use Rattle.apportion.proofs.Refusals.{number-some}
use Rattle.book_words.proofs.Ranges.{between-high, between-low}
use Rattle.book_words.proofs.SoundTests.{sound-counted}
use Rattle.book_shares.proofs.CloseAccepted.{accepted-closing}
use Rattle.book_shares.proofs.Laws.{close-refused}
use Rattle.book_shares.proofs.WorkedOut.{in-book, book-written, nothing-shared}
use Rattle.book_shares.proofs.closings.close_sound.Goals as goal

pub returns-in_err-work_out-clause-book_after : goal.returns-in_err-work_out-clause-book_after
returns-in_err-work_out-clause-book_after c =
    sym (close-refused c.args.book.now c.args.category (λ z. number-some c.in_err-work_out.field-0.0 ((rw c.of-lent.ensures at c.in_err-work_out.ensures.value) ∙ z)))

pub hand_out_to-requires-clause-by_index : goal.hand_out_to-requires-clause-by_index
hand_out_to-requires-clause-by_index c =
    in-book c.args.book.now c.args.category c.as_slice-places.result.now c.work_out.new.shares c.requires
    (c.as_slice-places.ensures.value ∙ rw c.of-lent.ensures at c.list_members-listed.ensures.places) (sym (rw c.of-lent.ensures at c.in_ok-work_out.ensures.value))
    (rw c.of-lent.ensures at (c.in_ok-work_out.ensures.worked_out (sym c.in_ok-work_out.ensures.value)))

pub set_word-requires-clause-long : goal.set_word-requires-clause-long
set_word-requires-clause-long c = omega (arith, sound-counted c.args.book.now c.requires, c.hand_out_to.auto.words)

pub set_word-requires-clause-number : goal.set_word-requires-clause-number
set_word-requires-clause-number c =
    let ws = c.args.book.now in
    let none : close_refusal ws c.args.category ≡ 0 = sym (rw c.of-lent.ensures at c.in_ok-work_out.ensures.value) in
    let numbered = (accepted-closing ws c.args.category none).numbered in (
      between-low 1 (categories ws) c.args.category numbered,
      omega (arith, between-high 1 (categories ws) c.args.category numbered, sound-counted ws c.requires),
    )

pub returns-clause-book_after : goal.returns-clause-book_after
returns-clause-book_after c =
    book-written c.args.book.now c.args.category c.as_slice-places.result.now c.work_out.new.shares c.requires
    (c.as_slice-places.ensures.value ∙ rw c.of-lent.ensures at c.list_members-listed.ensures.places) (sym (rw c.of-lent.ensures at c.in_ok-work_out.ensures.value))
    (rw c.of-lent.ensures at (c.in_ok-work_out.ensures.worked_out (sym c.in_ok-work_out.ensures.value))) c.hand_out_to.ensures c.set_word.ensures

pub work_out-requires : goal.work_out-requires
work_out-requires c = nothing-shared
