-- A load that its header does not stop is a list of calls, so that demand 3 holds of the book that it leaves. Assumes nothing.
use Rattle.std.specs.Prelude.{List, [], ◌∷◌, map, ◌≡◌, ℕ, suc, length, take, drop}
use Rattle.apportion.specs.Grounds.{accepted}
use Rattle.book.specs.Calls.{fresh_book}
use Rattle.conservation.specs.declared.Call.{Call}
use Rattle.conservation.specs.Conserved.{Conserved}
use Rattle.conservation.specs.Runs.{step, run_of}
use Rattle.book_file.specs.declared.answers.Load.{Load}
use Rattle.book_file.specs.declared.answers.Load.TheVariants.{Loaded}
use Rattle.book_file.specs.Answers.{answer_at}
use Rattle.book_file.specs.File.{header_refusal}
use Rattle.book_file.specs.Loading.{Task, tasks_of, task_refusal, load_answer, load_numbers, load_book}

-- the calls that tasks ask for, in their order
abbrev pub calls_of : List Task → List Call
calls_of tasks = map (λ (task : Task). task.call) tasks

-- how many of the tasks come before the first that stops the load
abbrev pub passed_of : List ℕ → List Task → ℕ
passed_of ws [] = 0
passed_of ws (task ∷ tasks) = accepted (task_refusal ws task) (suc (passed_of (step ws task.call).book tasks)) 0

-- so many tasks of a file come before the first that stops its load
unfoldable pub passed_in : List ℕ → List ℕ → ℕ
passed_in ws file = passed_of (fresh_book ws) (tasks_of file)

-- the calls of a file that are accepted
unfoldable pub calls_accepted : List ℕ → List ℕ → List Call
calls_accepted ws file = take (passed_in ws file) (calls_of (tasks_of file))

-- what the first of the tasks answers on a book; loaded where there is none
abbrev pub first_answer : List ℕ → List Task → Load
first_answer ws [] = Loaded
first_answer ws (task ∷ tasks) = answer_at (task_refusal ws task) task.place

-- the book that a load leaves is that of a run of the calls accepted, which are all the file's where the number is 0; what it
-- answers is what the task behind them answers on that book; and so demand 3 holds of it
pub record RunOfCalls (ws file : List ℕ) : Type 0 where
  pub book_of_run : load_book ws file ≡ (run_of ws (calls_accepted ws file)).book
  pub loaded_all : (load_numbers ws file).refusal ≡ 0 → calls_accepted ws file ≡ calls_of (tasks_of file)
  pub answer_of_next : load_answer ws file ≡ first_answer (load_book ws file) (drop (passed_in ws file) (tasks_of file))
  pub conserved : Conserved (run_of ws (calls_accepted ws file)).tally (load_book ws file)

-- every book and every file that the header does not stop
abbrev pub LoadConservation : Type 0
LoadConservation = (ws file : List ℕ) → header_refusal (length ws) file ≡ 0 → RunOfCalls ws file
