-- `book_file::tables::enrol` meets its contract: past ground 13 the call is as `SoundBook::enrol` ensures. Assumes nothing.
use Rattle.book_file.specs.Loading.{enrolling}
use Rattle.book_file.proofs.TaskLoop.{appended-made}
use Rattle.book_file.proofs.tables.enrol.Goals as goal

pub returns-clause-book_after : goal.returns-clause-book_after
returns-clause-book_after c number =
    appended-made c.args.book.now.words.now (enrolling number c.args.element) c.enrol.result c.map.result _
    (rw c.is_passenger.ensures at c.if-wrong_adjust-element.false) c.map.ensures.cases (rw c.into.ensures at c.enrol.ensures.value)
    (rw c.into.ensures at c.enrol.ensures.book_after)
