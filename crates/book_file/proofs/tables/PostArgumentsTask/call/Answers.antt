-- An entry's record, as a task, meets its contract: the call is as `SoundBook::post` ensures. Assumes nothing.
use mathlib.Core.Path.{refl}
use Rattle.book_file.specs.Loading.{posting}
use Rattle.book_file.proofs.TaskLoop.{appended-made}
use Rattle.book_file.proofs.tables.PostArgumentsTask.call.Goals as goal

pub returns-clause-book_after : goal.returns-clause-book_after
returns-clause-book_after c =
    appended-made c.args.book.now.words.now (posting c.args._number c.args.self) c.post.result c.map.result _ refl c.map.ensures.cases
    c.post.ensures.value c.post.ensures.book_after
