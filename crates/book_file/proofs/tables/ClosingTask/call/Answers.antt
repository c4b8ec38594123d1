-- A closing, as a task, meets its contract: a category that is not flagged is left as it is. Assumes nothing.
use mathlib.Core.Path.{refl}
use borrow.Author.Tests.{eq-eqb}
use Rattle.book_file.specs.Loading.{closing}
use Rattle.book_file.proofs.TaskLoop.{call-made}
use Rattle.book_file.proofs.tables.ClosingTask.call.Goals as goal

pub returns-clause-book_after : goal.returns-clause-book_after
returns-clause-book_after c =
    rw (eq-eqb c.args.self.category.flag 1 c.if-self-ne1.false)
    (call-made c.args.book.now.words.now (closing c.args.number) refl c.close.ensures.value c.close.ensures.book_after)
