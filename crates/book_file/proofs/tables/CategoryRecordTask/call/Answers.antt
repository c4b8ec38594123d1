-- A category's record, as a task, meets its contract: past ground 13 the call is as `SoundBook::open` ensures. Assumes nothing.
use borrow.Author.Tests.{le-ltb}
use Rattle.book_file.specs.Loading.{opening}
use Rattle.book_file.proofs.TaskLoop.{appended-made}
use Rattle.book_file.proofs.tables.CategoryRecordTask.call.Goals as goal

pub returns-clause-book_after : goal.returns-clause-book_after
returns-clause-book_after c =
    appended-made c.args.book.now.words.now (opening c.args._number c.args.self) c.«open».result c.map.result _
    (le-ltb 1 c.args.self.flag c.if-misflagged.false) c.map.ensures.cases c.«open».ensures.value c.«open».ensures.book_after
