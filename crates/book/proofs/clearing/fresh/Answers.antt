-- `book::clearing::fresh` meets its contract: the words that are filled with 0 are those of `cleared`. Assumes nothing.
use mathlib.Core.List.{List, [], ◌∷◌, ◌++◌}
use mathlib.Core.Path.{◌≡◌, refl, ◌∙◌, ap}
use Prim.Native.Nat.{ℕ, zero, suc, ◌≤◌}
use native.Mathlib.Numerals.{add-one}
use native.Mathlib.Omega.{arith}
use borrow.Author.Tests.{le-ltb}
use lib.ListN.{length, take, drop, replicate}
use lib.Seq.{length-take-le}
use Rattle.std.proofs.lemmas.Grind.{replicate_next}
use Rattle.apportion.specs.Places.{list_below}
use Rattle.book_words.specs.Book.{book_length}
use Rattle.book.specs.Calls.{cleared, fresh_book, fresh_refusal}
use Rattle.book.proofs.clearing.fresh.Goals as goal

zeros : (n : ℕ) → replicate n 0 ≡ list_below n (λ k. 0)
zeros zero = refl
zeros (suc n) = rw add-one at (replicate_next {X = ℕ} n 0) ∙ ap (λ (l : List ℕ). l ++ (0 ∷ [])) (zeros n)

-- the words of a book that are filled with 0, and what comes after them
clears : (ws new : List ℕ) → book_length ≤ length ws → new ≡ replicate (length (take book_length ws)) 0 → new ++ drop book_length ws ≡ cleared ws
unfolding cleared
clears ws new long e =
    ap (λ (l : List ℕ). l ++ drop book_length ws)
    (e ∙ ap (λ (n : ℕ). replicate n 0) (length-take-le book_length ws long) ∙ zeros book_length)

pub returns-clause-book_after : goal.returns-clause-book_after
unfolding fresh_book fresh_refusal
returns-clause-book_after c =
    let ws = c.args.book.now in
    let long : book_length ≤ length ws = omega arith in
    rw (le-ltb (length ws) book_length long, clears ws c.fill.new.self long (c.fill.ensures.after (λ y e. e)))
