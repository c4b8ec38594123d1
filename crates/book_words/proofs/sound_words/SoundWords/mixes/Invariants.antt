-- `book_words::sound_words::SoundWords::mixes` meets its contract: up to a place there are no passengers of the category, and the first
-- tells of all. Assumes nothing.
use mathlib.Core.Bool.{true, not}
use mathlib.Core.Path.{◌≡◌}
use Rattle.book_words.specs.Book.{element_at}
use Rattle.book_words.specs.Mixture.{is_passenger_in}
use Rattle.book_words.specs.Soundness.{all_below}
use Rattle.book_words.proofs.sound_words.SoundWords.mixes.Given as goal

abbrev pub invariant-loop-place : goal.invariant-loop-place
invariant-loop-place l = all_below l.place (λ p. not (is_passenger_in l.category (element_at l.self p))) ≡ true
