-- `book_file::tables::load_table` meets its contract. Assumes nothing.
use mathlib.Core.Path.{◌∙◌}
use native.Mathlib.Omega.{arith}
use Rattle.book_file.proofs.TaskLoop.{through-next, through-all, through-stopped, stop-handed}
use Rattle.book_file.proofs.tables.load_table.Goals as goal

pub returns-in_err-load_record-clause-book_after : goal.returns-in_err-load_record-clause-book_after
returns-in_err-load_record-clause-book_after g c =
    let ws = c.args.book.now.words.now in
    let file = c.args.file.now in
    let table = g.R.FileRecord.TABLE in
    rw (stop-handed c.in_err-load_record.field-0.0 c.from_residual.result c.from_residual.ensures.1)
    (through-stopped ws file table c.section_of-section.result c.section_of-section.ensures c.loop-place.place (omega arith)
    c.loop-place.invariant.made_so_far c.in_err-load_record.ensures.book_after)

pub loop-place-preserved : goal.loop-place-preserved
loop-place-preserved g c =
    record {
      made_so_far =
          through-next c.args.book.now.words.now c.args.file.now g.R.FileRecord.TABLE c.loop-place.place
          c.loop-place.invariant.made_so_far c.in_ok-load_record.ensures.book_after;
      same_words = c.load_record.ensures.same_words ∙ c.loop-place.invariant.same_words;
    }

pub returns-clause-book_after : goal.returns-clause-book_after
returns-clause-book_after g c =
    through-all c.args.book.now.words.now c.args.file.now g.R.FileRecord.TABLE c.section_of-section.result c.section_of-section.ensures
    c.loop-place.place (omega arith) c.loop-place.invariant.made_so_far
