-- `book_shares::listing::list_members` meets its contract: up to a place, the places of the category's elements are listed.
-- Assumes nothing.
use mathlib.Core.List.{List}
use mathlib.Core.Path.{◌≡◌}
use Prim.Native.Nat.{ℕ}
use Rattle.apportion.specs.Places.{kept_below}
use Rattle.book_shares.specs.Inner.Members.{is_member}
use Rattle.book_shares.proofs.listing.list_members.Given as goal

-- the places of the category's elements up to a place
abbrev pub listed_to : List ℕ → ℕ → ℕ → List ℕ
listed_to ws category n = kept_below n (is_member ws category) (λ p. p)

abbrev pub invariant-loop-place : goal.invariant-loop-place
invariant-loop-place l = l.places.items ≡ listed_to l.book l.category l.place
