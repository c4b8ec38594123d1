-- `book::sound_books::SoundBook::close` meets its contract: the book stays sound, and its sums as they are. Assumes nothing.
use mathlib.Core.Path.{sym, ◌∙◌}
use Rattle.book.proofs.Laws.{close-sound, close-sums}
use Rattle.book.proofs.sound_books.SoundBook.close.Goals as goal

pub invariant_of-self-clause-sound : goal.invariant_of-self-clause-sound
invariant_of-self-clause-sound c =
    rw c.close_sound.ensures.book_after (close-sound c.args.self.now.words.now c.args.category c.args.self.now.sound)

pub invariant_of-self-clause-counted : goal.invariant_of-self-clause-counted
invariant_of-self-clause-counted c =
    rw c.close_sound.ensures.book_after (c.args.self.now.counted ∙ sym (close-sums c.args.self.now.words.now c.args.category))
