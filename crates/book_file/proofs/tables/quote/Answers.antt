-- `book_file::tables::quote` meets its contract: past ground 13 the call is as `SoundBook::quote` ensures. Assumes nothing.
use mathlib.Core.Path.{ap}
use mathlib.Core.Bool.{not}
use borrow.Author.Tests.{eq-eqb}
use Rattle.book_file.specs.Loading.{quoting}
use Rattle.book_file.proofs.TaskLoop.{appended-made}
use Rattle.book_file.proofs.tables.quote.Goals as goal

pub returns-clause-book_after : goal.returns-clause-book_after
returns-clause-book_after c number =
    appended-made c.args.book.now.words.now (quoting number c.args.element) c.quote.result c.map.result _
    (ap not (eq-eqb c.args.element.code 0 c.if-element-ne0.false)) c.map.ensures.cases (rw c.into.ensures at c.quote.ensures.value)
    (rw c.into.ensures at c.quote.ensures.book_after)
