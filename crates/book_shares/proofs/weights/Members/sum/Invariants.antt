-- `book_shares::weights::Members::sum` meets its contract: up to a place in the list the sum is that of what is added.
-- Assumes nothing.
use mathlib.Core.Path.{◌≡◌}
use Prim.Native.Nat.{ℕ}
use lib.ListN.{length}
use Rattle.apportion.specs.Places.{at}
use Rattle.book_words.specs.Book.{element_at}
use Rattle.book_words.specs.Inner.Steps.{capped}
use Rattle.book_words.specs.declared.records.Element.{Element}
use Rattle.book_words.proofs.SumLoop.{Adding}
use Rattle.book_shares.proofs.weights.Members.sum.Given as goal

abbrev pub invariant-loop-place : goal.invariant-loop-place
invariant-loop-place g l =
    (measure : Element → ℕ) → ((e : Element) (n : ℕ) → goal.F-post g l.added e n → n ≡ capped (measure e))
    → Adding (length l.self.places.now) l.place-index l.sum (λ i. measure (element_at l.self.book.now (at l.self.places.now i)))
