-- `book_words::sound_words::SoundWords::sums` meets its contract: the sums of a sound book are not capped. Assumes nothing.
use mathlib.Core.Path.{◌∙◌}
use Rattle.book_words.proofs.CappedSums.{sums-exact}
use Rattle.book_words.proofs.SoundTests.{sound-sums}
use Rattle.book_words.proofs.sound_words.SoundWords.sums.Goals as goal

pub returns : goal.returns
returns c =
    rw (← c.self.view_is) (c.capped_sums.ensures ∙ sums-exact _ (sound-sums _ c.self.invariant))
