-- Demand 3 of the lists that are played: a list starts from an accepted fresh and goes on with calls. Statements, intensities, previews,
-- divisions, weights, dumps and cells may stand between them; pokes, lends, loads and a second fresh are no calls of such a list.
-- Assumes nothing.
use Rattle.std.specs.Prelude.{ℕ, zero, suc, ◌≤◌, Bool, true, cond, ◌&&◌, ◌||◌, List, [], ◌∷◌, ◌++◌, ◌≡◌, eqb, leb, length, drop}
use Rattle.book.specs.Calls.{fresh_refusal}
use Rattle.conservation.specs.declared.Call.{Call}
use Rattle.conservation.specs.Conserved.{Conserved}
use Rattle.conservation.specs.Runs.{run_of}
use Rattle.workbook.specs.declared.cells.Cell.{Cell}
use Rattle.replay.specs.declared.records.Words.{Words}
use Rattle.replay.specs.Answers.{call_of}
use Rattle.replay.specs.Cells.{listed_line, cells_after}
use Rattle.replay.specs.Replay.{lent_words}
use Rattle.replay.specs.Stages.{record_bytes, Stage, handled, records_in, replayed}
use Rattle.replay.specs.Words.{words_of}

-- the words of `left` records at the start of the bytes, and of all records of the bytes
abbrev pub words_in : ℕ → List ℕ → List Words
words_in zero bytes = []
words_in (suc left) bytes = words_of bytes ∷ words_in left (drop record_bytes bytes)

abbrev pub record_words : List ℕ → List Words
record_words bytes = words_in (records_in bytes) bytes

-- "opens, posts, strikes, enrolments, quotes and closings" are operations 2 to 7, and "Demand 3's lists may hold lines": operation 17
abbrev pub is_call : Words → Bool
is_call words = (leb 2 words.operation && leb words.operation 7) || eqb words.operation 17

-- a statement, an intensity, a preview, a division, a weight, a dump and a cell leave the lent words as they are
abbrev pub leaves_book : Words → Bool
leaves_book words =
    eqb words.operation 8
    || (eqb words.operation 9
    || (eqb words.operation 10
    || (eqb words.operation 11 || (eqb words.operation 14 || (eqb words.operation 16 || eqb words.operation 18)))))

-- the records are such operations alone
abbrev pub are_of_list : List Words → Bool
are_of_list [] = true
are_of_list (words ∷ rest) = (is_call words || leaves_book words) && are_of_list rest

-- the calls of the records, where these cells are listed before them
abbrev pub calls_in : List Cell → List Words → List Call
calls_in cells [] = []
calls_in cells (words ∷ rest) =
    cond (is_call words)
    (call_of words (listed_line cells) ∷ calls_in (cells_after words.operation words cells) rest)
    (calls_in (cells_after words.operation words cells) rest)

-- a list of calls was played from a fresh book that these words became: no file is on its way, the lent words are the book of a run
-- of the calls, and demand 3 holds of them
pub record Played (ws : List ℕ) (calls : List Call) (stage : Stage) : Type 0 where
  pub fresh_accepted : fresh_refusal ws ≡ 0
  pub no_file : stage.missing ≡ 0
  pub book_of_run : lent_words stage.machine ≡ (run_of ws calls).book
  pub conserved : Conserved (run_of ws calls).tally (lent_words stage.machine)

-- "from a fresh book": a record of operation 1 that is accepted starts a list without calls
abbrev pub StartsList : Type 0
StartsList =
    (bytes : List ℕ) (stage : Stage)
    → record_bytes ≤ length bytes → (words_of bytes).operation ≡ 1 → stage.missing ≡ 0 → fresh_refusal (lent_words stage.machine) ≡ 0
    → Played (lent_words stage.machine) [] (handled bytes stage)

-- "For every list of opens, posts, strikes, enrolments, quotes and closings from a fresh book, refused ones included, this holds
-- after it.": bytes whose records are such operations go on with a list, up to their end where no record is bad
abbrev pub ReplayConservation : Type 0
ReplayConservation =
    (ws : List ℕ) (calls : List Call) (bytes : List ℕ) (stage : Stage)
    → Played ws calls stage → are_of_list (record_words bytes) ≡ true → (replayed bytes stage).machine.good ≡ true
    → Played ws (calls ++ calls_in stage.machine.cells (record_words bytes)) (replayed bytes stage)
