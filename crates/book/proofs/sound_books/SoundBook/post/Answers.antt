-- `book::sound_books::SoundBook::post` meets its contract: a ground before 10 refuses, or the record is admitted or not. Assumes nothing.
use mathlib.Core.List.{[]}
use mathlib.Core.Path.{refl, ◌∙◌}
use Prim.Native.Nat.{◌+◌}
use Rattle.book_words.specs.Book.{add_entry, entries}
use Rattle.book_words.specs.Totals.{sums_of, with_entry}
use Rattle.book.specs.Calls.{post_grounds, post_refusal, post_reply, post_book, posted_entry}
use Rattle.apportion.proofs.Grounds.{decided-before}
use Rattle.apportion.proofs.Refusals.{number-some}
use Rattle.book.proofs.GroundTen.{post-capped, call-decided, call-suits}
use Rattle.book.proofs.Laws.{post-sound}
use Rattle.book.proofs.TestsAsGrounds.{reply-handed, call-refused}
use Rattle.book.proofs.sound_books.SoundBook.post.Goals as goal

pub returns-in_err-check_grounds-clause-value : goal.returns-in_err-check_grounds-clause-value
unfolding post_refusal post_reply post_book
returns-in_err-check_grounds-clause-value c =
    let refusal = c.in_err-check_grounds.field-0.0 in
    let is = decided-before 10 (post_grounds c.args.self.now.words.now c.args.p) refl (rw c.of.ensures at c.in_err-check_grounds.ensures) (number-some refusal) in
    reply-handed _ c.from_residual.result c.from_residual.ensures.1 ∙ (call-refused _ [] refusal {old = []} is).0

pub returns-in_err-check_grounds-clause-book_after : goal.returns-in_err-check_grounds-clause-book_after
unfolding post_refusal post_reply post_book
returns-in_err-check_grounds-clause-book_after c =
    let refusal = c.in_err-check_grounds.field-0.0 in
    let is = decided-before 10 (post_grounds c.args.self.now.words.now c.args.p) refl (rw c.of.ensures at c.in_err-check_grounds.ensures) (number-some refusal) in
    (call-refused 0 _ refusal is).1

pub admit-requires-clause-suits : goal.admit-requires-clause-suits
unfolding post_refusal post_book add_entry
admit-requires-clause-suits c =
    let ws = c.args.self.now.words.now in
    let p = c.args.p in
    call-suits with_entry add_entry (posted_entry p) _ (post_grounds ws p) ws refl refl (rw c.of.ensures at c.in_ok-check_grounds.ensures)
    c.posted.ensures (post-capped (sums_of ws) p) (post-sound ws p c.args.self.now.sound)

pub returns : goal.returns
unfolding post_refusal post_reply post_book add_entry
returns c =
    let ws = c.args.self.now.words.now in
    let p = c.args.p in
    let decided =
    call-decided with_entry add_entry (posted_entry p) _ (post_grounds ws p) ws refl refl (rw c.of.ensures at c.in_ok-check_grounds.ensures)
    c.posted.ensures (post-capped (sums_of ws) p) (entries ws + 1) (c.admit.ensures.value, c.admit.ensures.book_after) in
    record { value = decided.0; book_after = decided.1; same_words = c.admit.ensures.same_words }
