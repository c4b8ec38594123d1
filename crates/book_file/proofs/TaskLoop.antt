-- Laws of a load that goes from task to task. Assumes nothing.
use mathlib.Core.Bool.{Bool, true, false, cond}
use mathlib.Core.List.{List, [], ◌∷◌, ◌++◌}
use mathlib.Core.Path.{◌≡◌, refl, sym, ap, ◌∙◌}
use mathlib.Core.Logic.{⊎_elim}
use Prim.Native.Nat.{ℕ, zero, suc, ◌+◌, ◌<◌}
use native.Mathlib.Nat.{eq-or-lt_of_le}
use native.Mathlib.Numerals.{add-one}
use native.Mathlib.Omega.{arith}
use Rattle.std.proofs.Common.{Result, Ok, Err}
use Rattle.std.specs.Prelude.{MatchResult, IsOkAnd}
use Rattle.std.specs.Result.{IsErrAnd}
use Rattle.apportion.specs.Grounds.{accepted}
use Rattle.apportion.specs.Refusals.{number_of, refusal_in}
use Rattle.apportion.specs.declared.refusing.Refusal.{Refusal}
use Rattle.apportion.specs.Places.{kept_below}
use Rattle.apportion.proofs.Grounds.{accepted-new, refused-old, either}
use Rattle.book_words.specs.Soundness.{sound}
use Rattle.book.specs.Replies.{Reply, reply_in}
use Rattle.conservation.specs.Runs.{step}
use Rattle.conservation.proofs.Laws.{step-refused, sound-step}
use Rattle.book_file.specs.declared.answers.Load.{Load}
use Rattle.book_file.specs.declared.answers.Load.TheVariants.{Loaded, Stopped}
use Rattle.book_file.specs.declared.answers.Place.{Place}
use Rattle.book_file.specs.declared.answers.Place.TheVariants.{Header, Category, Entry, Element, Closing}
use Rattle.book_file.specs.declared.answers.Stop.{Stop}
use Rattle.book_file.specs.Answers.{numbers_of, answer_at}
use Rattle.book_file.specs.declared.header.Section.{Section}
use Rattle.book_file.specs.Inner.Steps.{answer_in, made_if}
use Rattle.book_file.specs.Loading.{Table, Task, task_refusal, made, section_of, is_asked, task_at, tasks_in}
use Rattle.book_file.specs.Loading.{Loading, loading_of, unless_stopped, next_task, carried_on}

-- the refusal number of a stop
pub stop-refusal : (n : ℕ) (place : Place) → (numbers_of (Stopped n place)).refusal ≡ n
stop-refusal n Header = refl
stop-refusal n (Category k) = refl
stop-refusal n (Entry k) = refl
stop-refusal n (Element k) = refl
stop-refusal n (Closing k) = refl

-- a task with the number 0, and one with another
pub made-done : (ws : List ℕ) (task : Task) → task_refusal ws task ≡ 0 → made ws task ≡ loading_of Loaded (step ws task.call).book
unfolding made answer_at
made-done ws task e = rw e

pub made-stopped : (ws : List ℕ) (task : Task) (n : ℕ) → task_refusal ws task ≡ suc n → made ws task ≡ loading_of (Stopped (suc n) task.place) ws
unfolding made answer_at
made-stopped ws task n e = rw e

-- a task whose call was made: a refused call leaves the book as it was
pub call-made : {ws' : List ℕ} {n : ℕ} (ws : List ℕ) (task : Task) → task.broken ≡ false → n ≡ (step ws task.call).reply.refusal
    → ws' ≡ (step ws task.call).book → loading_of (answer_at n task.place) ws' ≡ made ws task
unfolding made
call-made ws task whole refused left =
    rw (refused, left, whole) (ap (loading_of (answer_at (step ws task.call).reply.refusal task.place)) (kept (step ws task.call).reply.refusal refl))
  where
    kept : (n : ℕ) → (step ws task.call).reply.refusal ≡ n → (step ws task.call).book ≡ accepted n (step ws task.call).book ws
    kept zero is = refl
    kept (suc n) is = step-refused ws task.call (λ z. omega (arith, is, z))

-- the same of a call that appends a record, whose number is passed over
pub appended-made : {ws' : List ℕ} (ws : List ℕ) (task : Task) (answer : Result ℕ Refusal) (done : Result (Unit {0}) Refusal) (P : ℕ → Unit {0} → Type 0)
    → task.broken ≡ false → MatchResult answer (λ n. IsOkAnd done (P n)) (λ refusal. done ≡ Err refusal) → reply_in answer ≡ (step ws task.call).reply
    → ws' ≡ (step ws task.call).book → loading_of (answer_at (refusal_in done) task.place) ws' ≡ made ws task
appended-made ws task answer done P whole passed gave left =
    call-made ws task whole (of_answer answer done P passed ∙ ap (λ (r : Reply). r.refusal) gave) left
  where
    of_answer : (answer : Result ℕ Refusal) (done : Result (Unit {0}) Refusal) (P : ℕ → Unit {0} → Type 0)
        → MatchResult answer (λ n. IsOkAnd done (P n)) (λ refusal. done ≡ Err refusal) → refusal_in done ≡ (reply_in answer).refusal
    of_answer (Ok n) (Ok u) P h = refl
    of_answer (Ok n) (Err refusal) P h = absurd h
    of_answer (Err refusal) done P h = rw h

-- what holds of a book and of the book after a task's call holds of the book that the task leaves
made-keeps : (P : List ℕ → Type 0) (ws : List ℕ) (task : Task) → P (step ws task.call).book → P ws → P (made ws task).book
unfolding made
made-keeps P ws task new old =
    either P (task_refusal ws task) (made ws task).book ws
    (refused-old (task_refusal ws task) (step ws task.call).book ws)
    (λ e. rw (accepted-new (task_refusal ws task) (step ws task.call).book ws e) new)
    old

-- a list of tasks that are carried out one after the other
pub carried-append : (loading : Loading) (first rest : List Task)
    → carried_on loading (first ++ rest) ≡ carried_on (carried_on loading first) rest
carried-append loading [] rest = refl
carried-append loading (task ∷ first) rest = carried-append (next_task loading task) first rest

-- a load that is stopped stays so
pub carried-stopped : (n : ℕ) (place : Place) (ws : List ℕ) (tasks : List Task)
    → carried_on (loading_of (Stopped n place) ws) tasks ≡ loading_of (Stopped n place) ws
carried-stopped n place ws [] = refl
carried-stopped n place ws (task ∷ tasks) = carried-stopped n place ws tasks

-- every book on the way is sound
pub carried-sound : (loading : Loading) (tasks : List Task) → sound loading.book ≡ true → sound (carried_on loading tasks).book ≡ true
carried-sound loading [] fine = fine
carried-sound loading (task ∷ tasks) fine = carried-sound (next_task loading task) tasks (of-answer loading.answer)
  where
    of-answer : (answer : Load) → sound (unless_stopped answer (made loading.book task) loading).book ≡ true
    of-answer Loaded = made-keeps (λ b. sound b ≡ true) loading.book task (sound-step loading.book task.call fine) fine
    of-answer (Stopped n place) = fine

-- a table of a load that starts with this book
module _ (start file : List ℕ) (table : Table) where
  -- what the load has come to before a place
  abbrev pub through : ℕ → Loading
  through n = carried_on (loading_of Loaded start) (kept_below n (is_asked file table) (task_at file table))

  -- one place more
  abbrev one : ℕ → List Task
  one n = cond (is_asked file table n) (task_at file table n ∷ []) []

  through-one : (n : ℕ) {loading : Loading} → through n ≡ loading → through (suc n) ≡ carried_on loading (one n)
  through-one n e =
      carried-append (loading_of Loaded start) (kept_below n (is_asked file table) (task_at file table)) (one n)
      ∙ ap (λ (l : Loading). carried_on l (one n)) e

  -- where nothing has stopped the load
  pub through-next : (n : ℕ) {ws : List ℕ} {next : Loading} → through n ≡ loading_of Loaded ws
      → next ≡ made_if (is_asked file table n) ws (task_at file table n) → through (n + 1) ≡ next
  through-next n {ws} e made-so = rw (add-one) (through-one n e ∙ of_test (is_asked file table n) ∙ sym made-so)
    where
      of_test : (b : Bool) → carried_on (loading_of Loaded ws) (cond b (task_at file table n ∷ []) []) ≡ made_if b ws (task_at file table n)
      of_test true = refl
      of_test false = refl

  -- the end of its section
  pub through-all : (section : Section) → section ≡ section_of file table → (n : ℕ) {loading : Loading} → n ≡ section.count
      → through n ≡ loading → loading ≡ carried_on (loading_of Loaded start) (tasks_in file table)
  unfolding tasks_in
  through-all section is n end e = sym e ∙ ap through (end ∙ ap (λ (s : Section). s.count) is)

  -- a stop before the end is that of the whole table
  pub through-stopped : (section : Section) → section ≡ section_of file table → (n : ℕ) {k : ℕ} {place : Place} {ws' ws : List ℕ}
      → n < section.count → through n ≡ loading_of Loaded ws' → loading_of (Stopped k place) ws ≡ made_if (is_asked file table n) ws' (task_at file table n)
      → loading_of (Stopped k place) ws ≡ carried_on (loading_of Loaded start) (tasks_in file table)
  through-stopped section is n {k} {place} {ws'} {ws} before e made-so =
      through-all section is section.count refl (later section.count before)
    where
      stop : through (n + 1) ≡ loading_of (Stopped k place) ws
      stop = through-next n e made-so

      later : (m : ℕ) → n < m → through m ≡ loading_of (Stopped k place) ws
      later zero h = let z : ⊥ = omega arith in absurd z
      later (suc m) h =
          ⊎_elim
          (λ (here : suc n ≡ suc m). let same : n + 1 ≡ suc m = omega arith in rw same at stop)
          (λ (behind : suc n < suc m). through-one m (later m (omega arith)) ∙ carried-stopped k place ws (one m))
          (eq-or-lt_of_le h)

-- the answer that a stop is handed on in
pub stop-handed : (stop : Stop) (answer : Result (Unit {0}) Stop) → IsErrAnd answer (λ e. e ≡ stop)
    → answer_in answer ≡ Stopped (number_of stop.refusal) stop.place
stop-handed stop (Ok done) h = absurd h
stop-handed stop (Err e) h = rw h
