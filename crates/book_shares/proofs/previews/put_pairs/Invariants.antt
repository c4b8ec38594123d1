-- `book_shares::previews::put_pairs` meets its contract: up to a place the pairs are those of the book, and behind it zeros. Assumes nothing.
use mathlib.Core.List.{◌++◌}
use mathlib.Core.Path.{◌≡◌}
use lib.ListN.{drop}
use Rattle.book_words.specs.Book.{most_elements}
use Rattle.book_shares.specs.Previews.{pair_words, pairs_below}
use Rattle.book_shares.proofs.Pairs.{held_before}
use Rattle.book_shares.proofs.previews.put_pairs.Given as goal

abbrev pub invariant-loop-place : goal.invariant-loop-place
invariant-loop-place l = l.pairs ≡ pairs_below most_elements (held_before l.book l.place) ++ drop pair_words l.initial.pairs
