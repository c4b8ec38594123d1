-- `book::sound_books::SoundBook::admit` meets its contract: the sums with the record, capped, decide. Assumes nothing.
use Rattle.book_words.proofs.SoundTests.{sound-counted}
use Rattle.book.proofs.sound_books.SoundBook.admit.Goals as goal

pub append-number-requires : goal.append-number-requires
append-number-requires g c =
    ((sound-counted c.args.self.now.words.now c.args.self.now.sound).long, c.requires.book_bound)
