-- `book::sound_books::SoundBook::enrol` meets its contract: a ground before 10 refuses, or the record is admitted or not. Assumes nothing.
use mathlib.Core.List.{List, []}
use mathlib.Core.Path.{◌≡◌, refl, sym, ap, ◌∙◌}
use Prim.Native.Nat.{ℕ, ◌+◌}
use borrow.Author.Tests.{leb-false, not-false}
use Rattle.apportion.specs.Grounds.{first_of}
use Rattle.apportion.specs.Inner.Grounds.{grounds_before}
use Rattle.book_words.specs.Book.{add_element, elements, most_elements, category_of}
use Rattle.book_words.specs.Totals.{with_element}
use Rattle.book_words.specs.declared.records.Category.{Category}
use Rattle.book.specs.declared.arguments.EnrolArguments.{EnrolArguments}
use Rattle.book.specs.Calls.{enrol_grounds, enrol_in_range, enrol_refusal, enrol_reply, enrol_book, enrolled_element}
use Rattle.apportion.proofs.Grounds.{decided-before, none-holds}
use Rattle.apportion.proofs.Refusals.{number-some}
use Rattle.book.proofs.AcceptedCalls.{Passed}
use Rattle.book.proofs.GroundTen.{call-decided, call-suits}
use Rattle.book.proofs.Laws.{enrol-sound}
use Rattle.book.proofs.TestsAsGrounds.{reply-handed, call-refused}
use Rattle.book.proofs.sound_books.SoundBook.enrol.Goals as goal

-- no ground before 10 holds
passed : (ws : List ℕ) (e : EnrolArguments) → 0 ≡ first_of (grounds_before 10 (enrol_grounds ws e))
    → Passed (grounds_before 10 (enrol_grounds ws e))
passed ws e none = none-holds (grounds_before 10 (enrol_grounds ws e)) refl (sym none)

pub returns-in_err-category-clause-value : goal.returns-in_err-category-clause-value
unfolding enrol_refusal enrol_reply enrol_book
returns-in_err-category-clause-value c =
    let refusal = c.in_err-category.field-0.0 in
    let is = decided-before 10 (enrol_grounds c.args.self.now.words.now c.args.e) refl (rw c.of.ensures at c.in_err-category.ensures.refusal) (number-some refusal) in
    reply-handed _ c.from_residual.result c.from_residual.ensures.1 ∙ (call-refused _ [] refusal {old = []} is).0

pub returns-in_err-category-clause-book_after : goal.returns-in_err-category-clause-book_after
unfolding enrol_refusal enrol_reply enrol_book
returns-in_err-category-clause-book_after c =
    let refusal = c.in_err-category.field-0.0 in
    let is = decided-before 10 (enrol_grounds c.args.self.now.words.now c.args.e) refl (rw c.of.ensures at c.in_err-category.ensures.refusal) (number-some refusal) in
    (call-refused 0 _ refusal is).1

pub enrolled-requires-clause-e_value : goal.enrolled-requires-clause-e_value
enrolled-requires-clause-e_value c =
    let ws = c.args.self.now.words.now in
    let e = c.args.e in
    let category = category_of ws e.category in
    ap (λ (x : Category). enrol_in_range x e) (rw c.of.ensures at c.in_ok-category.ensures.category)
    ∙ not-false (enrol_in_range category e) (passed ws e (rw c.of.ensures at c.in_ok-category.ensures.refusal) 7)

pub admit-requires-clause-book_bound : goal.admit-requires-clause-book_bound
admit-requires-clause-book_bound c =
    let ws = c.args.self.now.words.now in
    leb-false most_elements (elements ws) (passed ws c.args.e (rw c.of.ensures at c.in_ok-category.ensures.refusal) 8)

pub admit-requires-clause-suits : goal.admit-requires-clause-suits
unfolding enrol_refusal enrol_book add_element
admit-requires-clause-suits c =
    let ws = c.args.self.now.words.now in
    let e = c.args.e in
    let new = enrolled_element (category_of ws e.category) e in
    let made = c.enrolled.ensures ∙ ap (λ (k : Category). enrolled_element k e) (rw c.of.ensures at c.in_ok-category.ensures.category) in
    call-suits with_element add_element new new (enrol_grounds ws e) ws refl refl (rw c.of.ensures at c.in_ok-category.ensures.refusal)
    made (refl, λ z. refl) (enrol-sound ws e c.args.self.now.sound)

pub returns : goal.returns
unfolding enrol_refusal enrol_reply enrol_book add_element
returns c =
    let ws = c.args.self.now.words.now in
    let e = c.args.e in
    let new = enrolled_element (category_of ws e.category) e in
    let made = c.enrolled.ensures ∙ ap (λ (k : Category). enrolled_element k e) (rw c.of.ensures at c.in_ok-category.ensures.category) in
    let decided =
    call-decided with_element add_element new new (enrol_grounds ws e) ws refl refl (rw c.of.ensures at c.in_ok-category.ensures.refusal)
    made (refl, λ z. refl) (elements ws + 1) (c.admit.ensures.value, c.admit.ensures.book_after) in
    record { value = decided.0; book_after = decided.1; same_words = c.admit.ensures.same_words }
