-- Demand 3 of what is printed, from the bytes of a file to the numbers of its sheet's last line. Assumes nothing.
use Rattle.std.specs.Prelude.{ℕ, List, [], ◌∷◌, ◌≡◌}
use Rattle.book.specs.Statements.{StatementReply}
use Rattle.conservation.specs.ClassTotal.{class_total_in}
use Rattle.conservation.specs.Conserved.{Conserved}
use Rattle.conservation.specs.Runs.{Run, run_of}
use Rattle.book_file.specs.Conserving.{calls_of}
use Rattle.book_file.specs.Loading.{tasks_of, load_answer}
use Rattle.book_file.specs.declared.answers.Load.TheVariants.{Loaded}
use Rattle.report.specs.Sheet.{sheet_text, all_word}
use Rattle.report.specs.Text.{word_line, last_line_of}
use Rattle.quaymeter.specs.Program.{zero_words, printed}

-- the run of a file's calls, which are all that its records ask for, from a fresh book
abbrev pub run_of_file : List ℕ → Run
run_of_file file = run_of zero_words (calls_of (tasks_of file))

-- its class total, from the tally of these calls alone
abbrev pub total_of_file : List ℕ → StatementReply
total_of_file file = class_total_in (run_of_file file).tally

-- what is printed for a file that is loaded: the sheet of the book that its calls leave; of that book demand 3 holds; and the last line
-- is `all`, how many elements the tally has and how many of them wait, and the emissions that it counts, in operation, in provision
-- and together
pub record PrintedConserved (file : List ℕ) : Type 0 where
  pub sheet_of_run : printed file ≡ sheet_text (run_of_file file).book
  pub conserved : Conserved (run_of_file file).tally (run_of_file file).book
  pub last_line : last_line_of (printed file)
      ≡ word_line all_word
      ((total_of_file file).elements
      ∷ (total_of_file file).waiting
      ∷ (total_of_file file).operation
      ∷ (total_of_file file).provision
      ∷ (total_of_file file).total
      ∷ [])

-- every file that is loaded
abbrev pub PrintedConservation : Type 0
PrintedConservation =
    (file : List ℕ) → load_answer zero_words file ≡ Loaded → PrintedConserved file
