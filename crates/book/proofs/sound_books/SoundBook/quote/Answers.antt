-- `book::sound_books::SoundBook::quote` meets its contract: a ground before 10 refuses, or the record is admitted or not. Assumes nothing.
use mathlib.Core.List.{[]}
use mathlib.Core.Path.{refl, ◌∙◌}
use Prim.Native.Nat.{◌+◌}
use Rattle.book_words.specs.Book.{add_element, elements}
use Rattle.book_words.specs.Totals.{sums_of, with_element}
use Rattle.book.specs.Calls.{quote_grounds, quote_refusal, quote_reply, quote_book, quoted_element}
use Rattle.apportion.proofs.Grounds.{decided-before}
use Rattle.apportion.proofs.Refusals.{number-some}
use Rattle.book.proofs.GroundTen.{quote-capped, call-decided, call-suits}
use Rattle.book.proofs.Laws.{quote-sound}
use Rattle.book.proofs.TestsAsGrounds.{reply-handed, call-refused}
use Rattle.book.proofs.sound_books.SoundBook.quote.Goals as goal

pub returns-in_err-check_grounds-clause-value : goal.returns-in_err-check_grounds-clause-value
unfolding quote_refusal quote_reply quote_book
returns-in_err-check_grounds-clause-value c =
    let refusal = c.in_err-check_grounds.field-0.0 in
    let is = decided-before 10 (quote_grounds c.args.self.now.words.now c.args.q) refl (rw c.of.ensures at c.in_err-check_grounds.ensures) (number-some refusal) in
    reply-handed _ c.from_residual.result c.from_residual.ensures.1 ∙ (call-refused _ [] refusal {old = []} is).0

pub returns-in_err-check_grounds-clause-book_after : goal.returns-in_err-check_grounds-clause-book_after
unfolding quote_refusal quote_reply quote_book
returns-in_err-check_grounds-clause-book_after c =
    let refusal = c.in_err-check_grounds.field-0.0 in
    let is = decided-before 10 (quote_grounds c.args.self.now.words.now c.args.q) refl (rw c.of.ensures at c.in_err-check_grounds.ensures) (number-some refusal) in
    (call-refused 0 _ refusal is).1

pub admit-requires-clause-suits : goal.admit-requires-clause-suits
unfolding quote_refusal quote_book add_element
admit-requires-clause-suits c =
    let ws = c.args.self.now.words.now in
    let q = c.args.q in
    call-suits with_element add_element (quoted_element q) _ (quote_grounds ws q) ws refl refl (rw c.of.ensures at c.in_ok-check_grounds.ensures)
    c.quoted.ensures (quote-capped (sums_of ws) q) (quote-sound ws q c.args.self.now.sound)

pub returns : goal.returns
unfolding quote_refusal quote_reply quote_book add_element
returns c =
    let ws = c.args.self.now.words.now in
    let q = c.args.q in
    let decided =
    call-decided with_element add_element (quoted_element q) _ (quote_grounds ws q) ws refl refl (rw c.of.ensures at c.in_ok-check_grounds.ensures)
    c.quoted.ensures (quote-capped (sums_of ws) q) (elements ws + 1) (c.admit.ensures.value, c.admit.ensures.book_after) in
    record { value = decided.0; book_after = decided.1; same_words = c.admit.ensures.same_words }
