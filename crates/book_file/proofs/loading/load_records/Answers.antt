-- `book_file::loading::load_records` meets its contract: the tables one after the other, up to one that stops the load. Assumes nothing.
use Rattle.book_file.specs.Loading.{tasks_of}
use Rattle.book_file.proofs.TaskLoop.{carried-append, carried-stopped, stop-handed}
use Rattle.book_file.proofs.loading.load_records.Goals as goal

pub returns-in_err-load_table-clause-book_after : goal.returns-in_err-load_table-clause-book_after
unfolding tasks_of
returns-in_err-load_table-clause-book_after c =
    rw (
      stop-handed c.in_err-load_table.field-0.0 c.from_residual.result c.from_residual.ensures.1,
      carried-append,
      ← c.in_err-load_table.ensures.book_after,
      carried-stopped,
    )

pub returns-in_err-load_table-2-clause-book_after : goal.returns-in_err-load_table-2-clause-book_after
unfolding tasks_of
returns-in_err-load_table-2-clause-book_after c =
    rw (
      stop-handed c.in_err-load_table-2.field-0.0 c.from_residual-in_err-load_table-2.result c.from_residual-in_err-load_table-2.ensures.1,
      carried-append,
      ← c.in_ok-load_table.ensures.book_after,
      carried-append,
      ← c.in_err-load_table-2.ensures.book_after,
      carried-stopped,
    )

pub returns-in_err-load_table-3-clause-book_after : goal.returns-in_err-load_table-3-clause-book_after
unfolding tasks_of
returns-in_err-load_table-3-clause-book_after c =
    rw (
      stop-handed c.in_err-load_table-3.field-0.0 c.from_residual-in_err-load_table-3.result c.from_residual-in_err-load_table-3.ensures.1,
      carried-append,
      ← c.in_ok-load_table.ensures.book_after,
      carried-append,
      ← c.in_ok-load_table-2.ensures.book_after,
      carried-append,
      ← c.in_err-load_table-3.ensures.book_after,
      carried-stopped,
    )

pub returns-clause-book_after : goal.returns-clause-book_after
unfolding tasks_of
returns-clause-book_after c =
    rw (
      carried-append,
      ← c.in_ok-load_table.ensures.book_after,
      carried-append,
      ← c.in_ok-load_table-2.ensures.book_after,
      carried-append,
      ← c.in_ok-load_table-3.ensures.book_after,
    )
    c.load_table-4.ensures.book_after
