-- The laws of loading for the crates above: what the header stops and what it lets through, the book that is left, and that a load is
-- a run of calls, of which demand 3 holds. Assumes nothing.
use mathlib.Core.Bool.{true}
use mathlib.Core.List.{List, [], ◌∷◌}
use mathlib.Core.Path.{◌≡◌, refl, sym, ap, ◌∙◌}
use Prim.Native.Nat.{ℕ, zero, suc}
use native.Mathlib.Omega.{arith}
use lib.ListN.{length, take, drop}
use Rattle.book_words.specs.Soundness.{sound}
use Rattle.book.specs.Calls.{fresh_book}
use Rattle.book.proofs.Laws.{fresh-sound}
use Rattle.apportion.specs.Grounds.{accepted}
use Rattle.apportion.proofs.Grounds.{accepted-new, refused-old}
use Rattle.conservation.specs.declared.Call.{Call}
use Rattle.conservation.specs.Runs.{Run, step, after, run_of}
use Rattle.conservation.specs.Runs.{next as next_run}
use Rattle.conservation.specs.Tally.{empty_tally}
use Rattle.conservation.proofs.Laws.{conserved as conserves}
use Rattle.book_file.specs.declared.answers.Load.{Load}
use Rattle.book_file.specs.declared.answers.Load.TheVariants.{Loaded, Stopped}
use Rattle.book_file.specs.declared.answers.Place.TheVariants.{Header}
use Rattle.book_file.specs.Answers.{numbers_of, answer_at}
use Rattle.book_file.specs.Conserving.{calls_of, passed_of, passed_in, calls_accepted, first_answer, LoadConservation}
use Rattle.book_file.specs.File.{header_refusal}
use Rattle.book_file.specs.Loading.{Task, task_refusal, Loading, loading_of, made, carried_on, tasks_of, load_of, load_answer, load_numbers, load_book}
use Rattle.book_file.proofs.TaskLoop.{stop-refusal, made-done, made-stopped, carried-stopped, carried-sound}
use Rattle.book_file.proofs.Headers.{header-long}
pub use Rattle.book_file.proofs.Headers.{record-inside}

module _ (ws file : List ℕ) where
  -- "1, 11 and 12 leave the book untouched"
  pub header-stops : (header_refusal (length ws) file ≡ 0 → ⊥) → load_of ws file ≡ loading_of (Stopped (header_refusal (length ws) file) Header) ws
  unfolding load_of
  header-stops = refused-old (header_refusal (length ws) file) _ _

  -- otherwise a fresh book, and the calls of the file
  pub header-passes : header_refusal (length ws) file ≡ 0 → load_of ws file ≡ carried_on (loading_of Loaded (fresh_book ws)) (tasks_of file)
  unfolding load_of
  header-passes = accepted-new (header_refusal (length ws) file) _ _

  pub fresh-fine : header_refusal (length ws) file ≡ 0 → sound (fresh_book ws) ≡ true
  fresh-fine fine = fresh-sound ws (header-long (length ws) file fine)

  -- a load that the header does not stop leaves a sound book
  pub load-sound : header_refusal (length ws) file ≡ 0 → sound (load_book ws file) ≡ true
  load-sound fine =
      ap (λ (l : Loading). sound l.book) (header-passes fine)
      ∙ carried-sound (loading_of Loaded (fresh_book ws)) (tasks_of file) (fresh-fine fine)

  -- where the answer is loaded, the header does not stop it
  pub loaded-passes : load_answer ws file ≡ Loaded → header_refusal (length ws) file ≡ 0
  loaded-passes loaded = go (header_refusal (length ws) file) refl
    where
      go : (n : ℕ) → header_refusal (length ws) file ≡ n → header_refusal (length ws) file ≡ 0
      go zero e = e
      go (suc n) e =
          let stopped = ap (λ (l : Loading). (numbers_of l.answer).refusal) (header-stops (λ z. omega (arith, e, z))) in
          sym stopped ∙ ap (λ (a : Load). (numbers_of a).refusal) loaded

  -- so a loaded book is sound
  pub loaded-sound : load_answer ws file ≡ Loaded → sound (load_book ws file) ≡ true
  loaded-sound loaded = load-sound (loaded-passes loaded)

-- the book that tasks leave is that of a run of the calls accepted
run-of : (run : Run) (tasks : List Task)
    → (carried_on (loading_of Loaded run.book) tasks).book ≡ (after run (take (passed_of run.book tasks) (calls_of tasks))).book
run-of run [] = refl
run-of run (task ∷ tasks) = go (task_refusal run.book task) refl (run-of (next_run run task.call) tasks)
  where
    go : (n : ℕ) → task_refusal run.book task ≡ n
        → (carried_on (loading_of Loaded (step run.book task.call).book) tasks).book
        ≡ (after (next_run run task.call) (take (passed_of (step run.book task.call).book tasks) (calls_of tasks))).book
        → (carried_on (made run.book task) tasks).book
        ≡ (after run (take (accepted n (suc (passed_of (step run.book task.call).book tasks)) 0) (calls_of (task ∷ tasks)))).book
    go zero e later = ap (λ (l : Loading). (carried_on l tasks).book) (made-done run.book task e) ∙ later
    go (suc n) e later =
        ap (λ (l : Loading). (carried_on l tasks).book) (made-stopped run.book task n e)
        ∙ ap (λ (l : Loading). l.book) (carried-stopped (suc n) task.place run.book tasks)

-- the answer is that of the first task that is not passed
answer-next : (ws : List ℕ) (tasks : List Task)
    → (carried_on (loading_of Loaded ws) tasks).answer
    ≡ first_answer (carried_on (loading_of Loaded ws) tasks).book (drop (passed_of ws tasks) tasks)
unfolding answer_at
answer-next ws [] = refl
answer-next ws (task ∷ tasks) = go (task_refusal ws task) refl (answer-next (step ws task.call).book tasks)
  where
    go : (n : ℕ) → task_refusal ws task ≡ n
        → (carried_on (loading_of Loaded (step ws task.call).book) tasks).answer
        ≡ first_answer (carried_on (loading_of Loaded (step ws task.call).book) tasks).book (drop (passed_of (step ws task.call).book tasks) tasks)
        → (carried_on (made ws task) tasks).answer
        ≡ first_answer (carried_on (made ws task) tasks).book
        (drop (accepted n (suc (passed_of (step ws task.call).book tasks)) 0) (task ∷ tasks))
    go zero e later = rw (made-done ws task e) later
    go (suc n) e later = rw (made-stopped ws task n e, carried-stopped (suc n) task.place ws tasks, e)

-- tasks that are answered with the number 0 are all done
all_done : (ws : List ℕ) (tasks : List Task) → (numbers_of (carried_on (loading_of Loaded ws) tasks).answer).refusal ≡ 0
    → ((carried_on (loading_of Loaded ws) tasks).answer ≡ Loaded) × (take (passed_of ws tasks) (calls_of tasks) ≡ calls_of tasks)
all_done ws [] none = (refl, refl)
all_done ws (task ∷ tasks) none = go (task_refusal ws task) refl none (all_done (step ws task.call).book tasks)
  where
    go : (n : ℕ) → task_refusal ws task ≡ n → (numbers_of (carried_on (made ws task) tasks).answer).refusal ≡ 0
        → ((numbers_of (carried_on (loading_of Loaded (step ws task.call).book) tasks).answer).refusal ≡ 0
        → ((carried_on (loading_of Loaded (step ws task.call).book) tasks).answer ≡ Loaded)
        × (take (passed_of (step ws task.call).book tasks) (calls_of tasks) ≡ calls_of tasks))
        → ((carried_on (made ws task) tasks).answer ≡ Loaded)
        × (take (accepted n (suc (passed_of (step ws task.call).book tasks)) 0) (calls_of (task ∷ tasks)) ≡ calls_of (task ∷ tasks))
    go zero e none later =
        let done = made-done ws task e in
        let rest = later (rw done at none) in
        (rw done rest.0, ap (λ (calls : List Call). task.call ∷ calls) rest.1)
    go (suc n) e none later =
        let stopped = made-stopped ws task n e in
        let z : suc n ≡ 0 =
        sym (stop-refusal (suc n) task.place)
        ∙ sym (ap (λ (l : Loading). (numbers_of l.answer).refusal)
        (ap (λ (l : Loading). carried_on l tasks) stopped ∙ carried-stopped (suc n) task.place ws tasks))
        ∙ none in
        let bad : ⊥ = omega arith in absurd bad

module _ (ws file : List ℕ) (fine : header_refusal (length ws) file ≡ 0) where
  answered : load_answer ws file ≡ (carried_on (loading_of Loaded (fresh_book ws)) (tasks_of file)).answer
  answered = ap (λ (l : Loading). l.answer) (header-passes ws file fine)

  left : load_book ws file ≡ (carried_on (loading_of Loaded (fresh_book ws)) (tasks_of file)).book
  left = ap (λ (l : Loading). l.book) (header-passes ws file fine)

  done : (load_numbers ws file).refusal ≡ 0
      → ((carried_on (loading_of Loaded (fresh_book ws)) (tasks_of file)).answer ≡ Loaded)
      × (take (passed_of (fresh_book ws) (tasks_of file)) (calls_of (tasks_of file)) ≡ calls_of (tasks_of file))
  done none = all_done (fresh_book ws) (tasks_of file) (sym (ap (λ (a : Load). (numbers_of a).refusal) answered) ∙ none)

  book-left : load_book ws file ≡ (run_of ws (calls_accepted ws file)).book
  unfolding calls_accepted passed_in
  book-left = left ∙ run-of (record { tally = empty_tally; book = fresh_book ws }) (tasks_of file)

  all-accepted : (load_numbers ws file).refusal ≡ 0 → calls_accepted ws file ≡ calls_of (tasks_of file)
  unfolding calls_accepted passed_in
  all-accepted none = (done none).1

  next-answers : load_answer ws file ≡ first_answer (load_book ws file) (drop (passed_in ws file) (tasks_of file))
  unfolding passed_in
  next-answers =
      answered
      ∙ answer-next (fresh_book ws) (tasks_of file)
      ∙ ap (λ (book : List ℕ). first_answer book (drop (passed_of (fresh_book ws) (tasks_of file)) (tasks_of file))) (sym left)

-- a load whose number is 0 is loaded, and not stopped
pub loaded-zero : (ws file : List ℕ) → (load_numbers ws file).refusal ≡ 0 → load_answer ws file ≡ Loaded
loaded-zero ws file none = go (header_refusal (length ws) file) refl
  where
    go : (n : ℕ) → header_refusal (length ws) file ≡ n → load_answer ws file ≡ Loaded
    go zero e = answered ws file e ∙ (done ws file e none).0
    go (suc n) e =
        let some : header_refusal (length ws) file ≡ 0 → ⊥ = λ z. omega (arith, e, z) in
        let stopped = ap (λ (l : Loading). (numbers_of l.answer).refusal) (header-stops ws file some) in
        absurd (some (sym stopped ∙ none))

-- Demand 3, of every file that is loaded or stopped on a record.
pub load-conserved : LoadConservation
load-conserved ws file fine =
    record {
      book_of_run = book-left ws file fine;
      loaded_all = all-accepted ws file fine;
      answer_of_next = next-answers ws file fine;
      conserved = rw (book-left ws file fine) (conserves ws (header-long (length ws) file fine) (calls_accepted ws file)).1;
    }
