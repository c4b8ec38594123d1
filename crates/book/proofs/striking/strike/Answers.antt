-- `book::striking::strike` meets its contract: where no ground holds, the entry is numbered. Assumes nothing.
use mathlib.Core.Bool.{Bool, true, false, cond}
use mathlib.Core.List.{List}
use mathlib.Core.Path.{◌≡◌, sym, ap, ◌∙◌}
use Prim.Native.Nat.{ℕ}
use native.Mathlib.Omega.{arith}
use borrow.Author.Tests.{not-false}
use Rattle.std.proofs.Common.{Ok, Err}
use Rattle.apportion.specs.Refusals.{value_in}
use Rattle.apportion.specs.declared.refusing.Refusal.TheVariants.{Unfit}
use Rattle.book_words.specs.Book.{entries}
use Rattle.book_words.specs.Measures.{between}
use Rattle.book_words.specs.Soundness.{sound}
use Rattle.book_words.proofs.SoundTests.{sound-counted}
use Rattle.book_words.proofs.Ranges.{between-low, between-high}
use Rattle.book.proofs.AcceptedCalls.{struck}
use Rattle.book.proofs.striking.strike.Goals as goal

-- the words that are tested are those that were lent
lent : (ws words : List ℕ) (b : Bool) → Ok words ≡ cond b (Ok ws) (Err Unfit) → words ≡ ws
lent ws words true is = ap (value_in ws) is
lent ws words false is = ap (value_in ws) is

pub set_word-requires-clause-long : goal.set_word-requires-clause-long
set_word-requires-clause-long c =
    let ws = c.args.book.now in
    let same = lent ws c.in_ok-words.words (sound ws) (sym c.in_ok-words.was ∙ c.tested.ensures) in
    let ok = struck ws c.args.entry (sym (rw same at c.in_ok-check_grounds.ensures)) in
    (sound-counted ws (not-false (sound ws) (ok 1))).long

pub set_word-requires-clause-number : goal.set_word-requires-clause-number
set_word-requires-clause-number c =
    let ws = c.args.book.now in
    let same = lent ws c.in_ok-words.words (sound ws) (sym c.in_ok-words.was ∙ c.tested.ensures) in
    let ok = struck ws c.args.entry (sym (rw same at c.in_ok-check_grounds.ensures)) in
    let numbered = not-false (between 1 (entries ws) c.args.entry) (ok 2) in (
      between-low 1 (entries ws) c.args.entry numbered,
      omega (arith, between-high 1 (entries ws) c.args.entry numbered, sound-counted ws (not-false (sound ws) (ok 1))),
    )
