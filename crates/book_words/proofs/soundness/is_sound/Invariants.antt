-- `book_words::soundness::is_sound` meets its contract: up to a list every list keeps the rules, and in it up to a
-- place every record; the label is left with a record that does not. Assumes nothing.
use mathlib.Core.Bool.{true}
use mathlib.Core.Path.{◌≡◌}
use Rattle.book_words.specs.Inner.Steps.{record_fine}
use Rattle.book_words.specs.Soundness.{all_below}
use Rattle.book_words.proofs.SoundTests.{turn_fine}
use Rattle.book_words.proofs.soundness.is_sound.Given as goal

abbrev pub invariant-loop-place : goal.invariant-loop-place
invariant-loop-place l = (l.good ≡ true) × (all_below l.place (record_fine l.words l.list) ≡ true)

abbrev pub invariant-lists : goal.invariant-lists
invariant-lists l = (l.good ≡ true) × (all_below l.list-index (turn_fine l.words) ≡ true)
