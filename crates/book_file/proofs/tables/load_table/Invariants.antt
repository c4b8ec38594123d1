-- `book_file::tables::load_table` meets its contract. The loop's invariant: the tasks of the places passed have stopped nothing
-- and left this book. Assumes nothing.
use mathlib.Core.Path.{◌≡◌}
use Rattle.book_file.specs.declared.answers.Load.TheVariants.{Loaded}
use Rattle.book_file.specs.Loading.{loading_of}
use Rattle.book_file.proofs.TaskLoop.{through}
use Rattle.book_file.proofs.tables.load_table.Given as goal

abbrev pub invariant-loop-place : goal.invariant-loop-place
invariant-loop-place g l = record {
  made_so_far : through l.initial.book.words.now l.file g.R.FileRecord.TABLE l.place ≡ loading_of Loaded l.book.words.now;
  same_words : l.book.words.ghost_name ≡ l.initial.book.words.ghost_name;
}
