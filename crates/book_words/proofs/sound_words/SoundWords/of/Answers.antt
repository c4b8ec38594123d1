-- `book_words::sound_words::SoundWords::of` meets its contract: the counts of a sound book are within their limits. Assumes nothing.
use Rattle.book_words.proofs.SoundTests.{sound-counted}
use Rattle.book_words.proofs.sound_words.SoundWords.of.Goals as goal

pub of-requires : goal.of-requires
of-requires c = sound-counted _ c.requires
