-- Demand 3 holds of the lists that are played. Assumes nothing.
use Prim.Native.Nat.{ℕ, zero, suc, ◌+◌, ◌≤◌}
use native.Mathlib.Omega.{arith}
use mathlib.Core.Bool.{Bool, true, false, cond, ◌&&◌, ◌||◌, true≢false}
use mathlib.Core.List.{List, [], ◌∷◌, ◌++◌}
use mathlib.Core.Path.{◌≡◌, refl, ap, sym, subst, ◌∙◌}
use borrow.Author.Tests.{ltb-false, leb-true, eqb-true, le-ltb, le-leb, ne_eqb}
use lib.Dec.{eqb, ltb, leb}
use lib.ListN.{length, take, drop}
use Rattle.std.proofs.lemmas.Bool.{and_parts}
use Rattle.apportion.specs.Grounds.{accepted}
use Rattle.apportion.proofs.Grounds.{none-holds}
use Rattle.book_words.specs.Book.{book_length}
use Rattle.book.specs.Calls.{fresh_grounds, fresh_refusal, fresh_book}
use Rattle.book.proofs.Laws.{fresh-made}
use Rattle.conservation.specs.declared.Call.{Call}
use Rattle.conservation.specs.Runs.{Run, step, next, after, run_of}
use Rattle.conservation.proofs.Laws.{conserved as conserves, step-length}
use Rattle.workbook.specs.declared.cells.Cell.{Cell}
use Rattle.replay.specs.declared.records.Words.{Words}
use Rattle.replay.specs.Answers.{call_of, answered}
use Rattle.replay.specs.Cells.{cell_of, listed_line, with_cell, cells_after}
use Rattle.replay.specs.Conserving.{words_in, record_words, is_call, leaves_book, are_of_list, calls_in, Played, StartsList, ReplayConservation}
use Rattle.replay.specs.Replay.{bad, lent_count, lent_words, with_cells, called, division_done, changed, dumped, preview_done, cell_listed, line_done, performed}
use Rattle.replay.specs.Replay.{Machine}
use Rattle.replay.specs.Stages.{record_bytes, Stage, on_machine, counted, due, operated, handled, replayed_of, records_in, replayed}
use Rattle.replay.specs.Words.{words_of}
use Rattle.replay.proofs.Stages.{cond-through}

-- the words that a call leaves stand where the lent ones stood
given_back : (n : ℕ) (memory book : List ℕ) → length book ≡ length (take n memory) → take n (book ++ drop n memory) ≡ book
given_back zero memory [] same = refl
given_back zero memory (b ∷ bs) same = let z : ⊥ = omega arith in absurd z
given_back (suc n) [] [] same = refl
given_back (suc n) [] (b ∷ bs) same = let z : ⊥ = omega arith in absurd z
given_back (suc n) (m ∷ ms) [] same = let z : ⊥ = omega arith in absurd z
given_back (suc n) (m ∷ ms) (b ∷ bs) same = ap (λ (xs : List ℕ). b ∷ xs) (given_back n ms bs (omega arith))

-- a machine with these lent words and these listed cells
abbrev Holding : List ℕ → List Cell → Machine → Type 0
Holding ws cells machine = (lent_words machine ≡ ws) × (machine.cells ≡ cells)

either-holding : (ws : List ℕ) (cells : List Cell) (test : Bool) (one other : Machine) → Holding ws cells one → Holding ws cells other
    → Holding ws cells (cond test one other)
either-holding ws cells true one other of_one of_other = of_one
either-holding ws cells false one other of_one of_other = of_other

either-test : {P : Type 0} (one other : Bool) → one || other ≡ true → (one ≡ true → P) → (other ≡ true → P) → P
either-test true other h of_one of_other = of_one refl
either-test false other h of_one of_other = of_other h

fresh-long : (ws : List ℕ) → fresh_refusal ws ≡ 0 → book_length ≤ length ws
unfolding fresh_refusal
fresh-long ws e = ltb-false (length ws) book_length (none-holds (fresh_grounds ws) refl e 1)

-- what operations leave of the lent words
module _ (words : Words) (file : List ℕ) (machine : Machine) where
  abbrev done : Machine
  done = performed words.operation words file machine

  abbrev left : List ℕ
  left = lent_words done

  fresh-left : words.operation ≡ 1 → fresh_refusal (lent_words machine) ≡ 0 → left ≡ fresh_book (lent_words machine)
  unfolding performed called answered
  fresh-left is e =
      rw is
      (given_back (lent_count machine) machine.memory (fresh_book (lent_words machine))
      (fresh-made (lent_words machine) (fresh-long (lent_words machine) e)).same_length)

  abbrev call : Call
  call = call_of words (listed_line machine.cells)

  -- a call of operations 2 to 7, which leaves the listed cells, and a line, which uses them up
  abbrev Made : Type 0
  Made = Holding (step (lent_words machine) call).book (cells_after words.operation words machine.cells) done

  returned-book : take (lent_count machine) ((step (lent_words machine) call).book ++ drop (lent_count machine) machine.memory) ≡ (step (lent_words machine) call).book
  returned-book = given_back (lent_count machine) machine.memory (step (lent_words machine) call).book (step-length (lent_words machine) call)

  plain-made : leb 2 words.operation && leb words.operation 7 ≡ true → Made
  unfolding performed called answered
  plain-made is =
      let n = words.operation in
      let low = leb-true 2 n (and_parts (leb 2 n) (leb n 7) is).0 in
      let high = leb-true n 7 (and_parts (leb 2 n) (leb n 7) is).1 in
      rw (
        le-leb 1 n (omega arith),
        le-leb n 9 (omega arith),
        ne_eqb n 1 (λ e. omega arith),
        ne_eqb n 8 (λ e. omega arith),
        ne_eqb n 9 (λ e. omega arith),
        ne_eqb n 15 (λ e. omega arith),
        ne_eqb n 16 (λ e. omega arith),
        ne_eqb n 17 (λ e. omega arith),
      )
      (returned-book, refl)

  line-done : (performed 17 words file machine).good ≡ true → Holding (step (lent_words machine) call).book [] (performed 17 words file machine)
  unfolding performed called answered line_done
  line-done good = go (eqb (length machine.cells) 3) good
    where
      go : (three : Bool) → (cond three (with_cells [] (called 17 words file machine)) (bad machine)).good ≡ true
          → Holding (step (lent_words machine) call).book [] (cond three (with_cells [] (called 17 words file machine)) (bad machine))
      go true good = (returned-book, refl)
      go false good = absurd (true≢false (sym good))

  line_made : words.operation ≡ 17 → done.good ≡ true → Made
  line_made is =
      subst
      (λ (n : ℕ).
      (performed n words file machine).good ≡ true
      → Holding (step (lent_words machine) call).book (cells_after n words machine.cells) (performed n words file machine))
      (sym is) line-done

  call-made : is_call words ≡ true → done.good ≡ true → Made
  call-made is good =
      let n = words.operation in
      either-test (leb 2 n && leb n 7) (eqb n 17) is plain-made (λ e. line_made (eqb-true n 17 e) good)

  -- what else may stand in a list
  abbrev Passed : Type 0
  Passed = Holding (lent_words machine) (cells_after words.operation words machine.cells) done

  listed-passed : words.operation ≡ 16 → done.good ≡ true → Passed
  unfolding performed cell_listed
  listed-passed is good = rw is (go (ltb 2 words.first || ltb 2 (length machine.cells)) (rw is at good))
    where
      go : (over : Bool) → (cond over (bad machine) (with_cells (with_cell (cell_of words) machine.cells) machine)).good ≡ true
          → Holding (lent_words machine) (with_cell (cell_of words) machine.cells)
          (cond over (bad machine) (with_cells (with_cell (cell_of words) machine.cells) machine))
      go true good = absurd (true≢false (sym good))
      go false good = (refl, refl)

  book-left : leaves_book words ≡ true → done.good ≡ true → Passed
  unfolding performed called answered division_done changed dumped preview_done
  book-left is good =
      let n = words.operation in
      let ws = lent_words machine in
      let cells = machine.cells in
      let same = given_back (lent_count machine) machine.memory ws refl in
      either-test (eqb n 8) _ is (λ e. rw (eqb-true n 8 e) (same, refl))
      (λ is. either-test (eqb n 9) _ is (λ e. rw (eqb-true n 9 e) (same, refl))
      (λ is. either-test (eqb n 10) _ is (λ e. rw (eqb-true n 10 e) (either-holding ws cells (leb words.second 300) _ _ (refl, refl) (refl, refl)))
      (λ is. either-test (eqb n 11) _ is
      (λ e. rw (eqb-true n 11 e) (either-holding ws cells (ltb (length machine.weights) 300) _ _ (refl, refl) (refl, refl)))
      (λ is. either-test (eqb n 14) _ is
      (λ e. rw (eqb-true n 14 e) (either-holding ws cells (leb (words.first + words.second) 3000) _ _ (refl, refl) (refl, refl)))
      (λ is. either-test (eqb n 16) _ is (λ e. listed-passed (eqb-true n 16 e) good)
      (λ e. rw (eqb-true n 18 e) (either-holding ws cells (leb words.second 600) _ _ (refl, refl) (refl, refl))))))))

-- a whole record of an operation that has no file, where none is on its way, is performed
performs : (bytes : List ℕ) (stage : Stage) → stage.missing ≡ 0 → ((words_of bytes).operation ≡ 15 → ⊥) → record_bytes ≤ length bytes
    → handled bytes stage ≡ on_machine (performed (words_of bytes).operation (words_of bytes) stage.file) stage
unfolding handled operated due
performs bytes stage idle other whole =
    rw (le-ltb (length bytes) record_bytes whole, idle, ne_eqb (words_of bytes).operation 15 other)

-- a record that is cut short is bad
uncut : (bytes : List ℕ) (stage : Stage) → (handled bytes stage).machine.good ≡ true → record_bytes ≤ length bytes
unfolding handled
uncut bytes stage good = go (ltb (length bytes) record_bytes) refl (λ short. rw short at good)
  where
    go : (short : Bool) → ltb (length bytes) record_bytes ≡ short → (short ≡ true → false ≡ true) → record_bytes ≤ length bytes
    go true is bad = let z : ◌≡◌ {A = ℕ} 0 1 = cc (bad refl) in omega arith
    go false is bad = ltb-false (length bytes) record_bytes is

-- operations of a list have no file
no-load : (words : Words) → is_call words || leaves_book words ≡ true → words.operation ≡ 15 → ⊥
no-load words is e = let z : ◌≡◌ {A = ℕ} 0 1 = cc (rw e at is) in omega arith

-- the lent words are the book of a run of calls, these cells are listed, and no file is on its way
record Book (run : Run) (cells : List Cell) (stage : Stage) : Type 0 where
  no_file : stage.missing ≡ 0
  book_of_run : lent_words stage.machine ≡ run.book
  listed : stage.machine.cells ≡ cells

-- the run after a record of a list: its call is made, where it is one
abbrev onward : Run → List Cell → Words → Run
onward run cells words = cond (is_call words) (next run (call_of words (listed_line cells))) run

-- a record of a list makes its call, or leaves the book as it is
record-played : (run : Run) (cells : List Cell) (bytes : List ℕ) (stage : Stage) → Book run cells stage → is_call (words_of bytes) || leaves_book (words_of bytes) ≡ true
    → (handled bytes stage).machine.good ≡ true → Book (onward run cells (words_of bytes)) (cells_after (words_of bytes).operation (words_of bytes) cells) (handled bytes stage)
record-played run cells bytes stage before of-list good =
    let one = performs bytes stage before.no_file (no-load (words_of bytes) of-list) (uncut bytes stage good) in
    let held = go (is_call (words_of bytes)) refl of-list (rw one at good) in
    rw one (record { no_file = before.no_file; book_of_run = held.0; listed = held.1 })
  where
    go : (call : Bool) → is_call (words_of bytes) ≡ call → call || leaves_book (words_of bytes) ≡ true
        → (performed (words_of bytes).operation (words_of bytes) stage.file stage.machine).good ≡ true
        → Holding (cond call (next run (call_of (words_of bytes) (listed_line cells))) run).book (cells_after (words_of bytes).operation (words_of bytes) cells)
        (performed (words_of bytes).operation (words_of bytes) stage.file stage.machine)
    go true is of-list good =
        let made = call-made (words_of bytes) stage.file stage.machine is good in
        rw (← before.book_of_run, ← before.listed) made
    go false is of-list good = rw (← before.book_of_run, ← before.listed) (book-left (words_of bytes) stage.file stage.machine of-list good)

after-record : (call : Bool) (run : Run) (made : Call) (calls : List Call)
    → after (cond call (next run made) run) calls ≡ after run (cond call (made ∷ calls) calls)
after-record call run made calls =
    cond-through (λ (r : Run). after r calls) call (next run made) run ∙ sym (cond-through (after run) call (made ∷ calls) calls)

-- records go on where none was bad
unless-bad : (run : Run) (cells : List Cell) (good : Bool) (one more : Stage) → one.machine.good ≡ good → (cond good more one).machine.good ≡ true
    → (one.machine.good ≡ true → more.machine.good ≡ true → Book run cells more) → Book run cells (cond good more one)
unless-bad run cells true one more is fine on = on is fine
unless-bad run cells false one more is fine on = let z : ◌≡◌ {A = ℕ} 0 1 = cc in absurd (omega arith)

-- the listed cells after the records
abbrev cells_past : List Cell → List Words → List Cell
cells_past cells [] = cells
cells_past cells (words ∷ rest) = cells_past (cells_after words.operation words cells) rest

-- so many records of a list
plays : (left : ℕ) (run : Run) (cells : List Cell) (bytes : List ℕ) (stage : Stage) → Book run cells stage → are_of_list (words_in left bytes) ≡ true
    → (replayed_of left bytes stage).machine.good ≡ true
    → Book (after run (calls_in cells (words_in left bytes))) (cells_past cells (words_in left bytes)) (replayed_of left bytes stage)
plays zero run cells bytes stage before of-list good = before
plays (suc n) run cells bytes stage before of-list good =
    let words = words_of bytes in
    let done = handled bytes (counted stage) in
    let rest = words_in n (drop record_bytes bytes) in
    let later-cells = cells_after words.operation words cells in
    let each = and_parts (is_call words || leaves_book words) (are_of_list rest) of-list in
    unless-bad (after run (calls_in cells (words ∷ rest))) (cells_past cells (words ∷ rest)) done.machine.good done
    (replayed_of n (drop record_bytes bytes) done) refl good
    (λ fine later.
    let ready : Book run cells (counted stage) = record { no_file = before.no_file; book_of_run = before.book_of_run; listed = before.listed } in
    let one = record-played run cells bytes (counted stage) ready each.0 fine in
    rw (← after-record (is_call words) run (call_of words (listed_line cells)) (calls_in later-cells rest))
    (plays n (onward run cells words) later-cells (drop record_bytes bytes) done one each.1 later))

-- the calls of a list, one part after the other
after_both : (run : Run) (calls more : List Call) → after run (calls ++ more) ≡ after (after run calls) more
after_both run [] more = refl
after_both run (call ∷ calls) more = after_both (next run call) calls more

-- demand 3 holds of such a book
played : (ws : List ℕ) (calls : List Call) (cells : List Cell) (stage : Stage) → fresh_refusal ws ≡ 0 → Book (run_of ws calls) cells stage → Played ws calls stage
played ws calls cells stage accepted book =
    record {
      fresh_accepted = accepted;
      no_file = book.no_file;
      book_of_run = book.book_of_run;
      conserved = rw book.book_of_run (conserves ws (fresh-long ws accepted) calls).1;
    }

-- A list starts from an accepted fresh.
pub starts-list : StartsList
starts-list bytes stage whole is idle accepted =
    let one = performs bytes stage idle (λ z. omega arith) whole in
    played (lent_words stage.machine) [] (handled bytes stage).machine.cells (handled bytes stage) accepted
    (rw one (record { no_file = idle; book_of_run = fresh-left (words_of bytes) stage.file stage.machine is accepted; listed = refl }))

-- Demand 3, of every list that is played from it.
pub replay-conserved : ReplayConservation
replay-conserved ws calls bytes stage before of-list good =
    let cells = stage.machine.cells in
    let more = calls_in cells (record_words bytes) in
    let ready : Book (run_of ws calls) cells stage = record { no_file = before.no_file; book_of_run = before.book_of_run; listed = refl } in
    played ws (calls ++ more) (cells_past cells (record_words bytes)) (replayed bytes stage) before.fresh_accepted
    (rw (after_both (run_of ws []) calls more) (plays (records_in bytes) (run_of ws calls) cells bytes stage ready of-list good))
