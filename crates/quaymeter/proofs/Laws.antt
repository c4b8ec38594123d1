-- Demand 3 of what is printed. Assumes nothing.
use Prim.Native.Nat.{ℕ, ◌≤◌}
use native.Mathlib.Omega.{arith}
use mathlib.Core.List.{List}
use mathlib.Core.Path.{◌≡◌, refl, sym, ◌∙◌, ap}
use lib.ListN.{length, length-replicate}
use Rattle.book_words.specs.Book.{book_length}
use Rattle.conservation.specs.declared.Call.{Call}
use Rattle.conservation.specs.Runs.{run_of}
use Rattle.conservation.proofs.Laws.{conserved, total-conserved}
use Rattle.book_file.specs.Answers.{numbers_of}
use Rattle.book_file.specs.Conserving.{calls_of}
use Rattle.book_file.specs.Loading.{tasks_of, load_answer, load_book}
use Rattle.book_file.specs.declared.answers.Load.{Load}
use Rattle.book_file.specs.declared.answers.Load.TheVariants.{Loaded}
use Rattle.book_file.proofs.Laws.{loaded-passes, load-conserved}
use Rattle.report.specs.Sheet.{sheet_text, all_line}
use Rattle.report.specs.Text.{last_line_of}
use Rattle.report.proofs.Laws.{sheet-last-line}
use Rattle.quaymeter.specs.Conserving.{run_of_file, PrintedConservation}
use Rattle.quaymeter.specs.Program.{zero_words, printed}
use Rattle.quaymeter.proofs.Printing.{printed_book}

module _ (file : List ℕ) (loaded : load_answer zero_words file ≡ Loaded) where
  -- the book that is loaded is that of the run of all the file's calls
  book-of-file : load_book zero_words file ≡ (run_of_file file).book
  book-of-file =
      let run = load-conserved zero_words file (loaded-passes zero_words file loaded) in
      run.book_of_run ∙ ap (λ (calls : List Call). (run_of zero_words calls).book) (run.loaded_all (ap (λ (a : Load). (numbers_of a).refusal) loaded))

  -- and its sheet is printed
  printed-of-file : printed file ≡ sheet_text (run_of_file file).book
  printed-of-file =
      sym (printed_book zero_words file {book = load_book zero_words file} loaded refl refl) ∙ ap sheet_text book-of-file

-- Demand 3, of what is printed for every file that is loaded.
pub printed-conserved : PrintedConservation
unfolding all_line
printed-conserved file loaded =
    let calls = calls_of (tasks_of file) in
    let long : book_length ≤ length zero_words = omega (arith, length-replicate {A = ℕ} book_length 0) in
    record {
      sheet_of_run = printed-of-file file loaded;
      conserved = (conserved zero_words long calls).1;
      last_line =
          ap last_line_of (printed-of-file file loaded)
          ∙ sheet-last-line (run_of_file file).book
          ∙ ap all_line (total-conserved zero_words long calls);
    }
