-- What an operation does. Assumes nothing.
use Rattle.std.specs.Prelude.{ℕ, ◌+◌, min, Bool, true, false, cond, ◌&&◌, ◌||◌, List, [], ◌∷◌, ◌++◌, eqb, ltb, leb, length, take, drop, set, replicate}
use Rattle.apportion.specs.Places.{sum_of}
use Rattle.apportion.specs.Dividing.{refusal, shares_after}
use Rattle.book_shares.specs.Previews.{preview_refusal, preview_pairs}
use Rattle.workbook.specs.declared.cells.Cell.{Cell}
use Rattle.replay.specs.declared.records.Words.{Words}
use Rattle.replay.specs.declared.state.State.{State}
use Rattle.replay.specs.Answers.{Answered, answered}
use Rattle.replay.specs.Cells.{listed_line, cells_after}
use Rattle.replay.specs.Text.{numbers_line}
use Rattle.replay.specs.Waiting.{put}

-- the words of the book's array
abbrev pub array_length : ℕ
array_length = 3000

-- room for the listed weights, and the longest slice of shares
abbrev pub room : ℕ
room = 300

-- what operations work on: the words of the book's array, the listed weights, the listed cells, and how many words of the array are lent
-- to calls; the bytes that wait to be written; and that no record was bad
pub record Machine : Type 0 where
  pub memory : List ℕ
  pub weights : List ℕ
  pub cells : List Cell
  pub lent : ℕ
  pub waiting : List ℕ
  pub good : Bool

-- the machine that the program's state holds
abbrev pub machine_of : State → Machine
machine_of state =
    record {
      memory = state.memory;
      weights = state.weights.items;
      cells = state.cells.items;
      lent = state.lent;
      waiting = state.output.waiting.items;
      good = state.good;
    }

-- before the first record
abbrev pub started : Machine
started = record { memory = replicate array_length 0; weights = []; cells = []; lent = array_length; waiting = []; good = true }

-- a machine with one thing set anew
abbrev pub with_memory : List ℕ → Machine → Machine
with_memory memory machine =
    record { memory = memory; weights = machine.weights; cells = machine.cells; lent = machine.lent; waiting = machine.waiting; good = machine.good }

abbrev pub with_weights : List ℕ → Machine → Machine
with_weights weights machine =
    record { memory = machine.memory; weights = weights; cells = machine.cells; lent = machine.lent; waiting = machine.waiting; good = machine.good }

abbrev pub with_cells : List Cell → Machine → Machine
with_cells cells machine =
    record { memory = machine.memory; weights = machine.weights; cells = cells; lent = machine.lent; waiting = machine.waiting; good = machine.good }

abbrev pub with_lent : ℕ → Machine → Machine
with_lent lent machine =
    record { memory = machine.memory; weights = machine.weights; cells = machine.cells; lent = lent; waiting = machine.waiting; good = machine.good }

abbrev pub with_waiting : List ℕ → Machine → Machine
with_waiting waiting machine =
    record { memory = machine.memory; weights = machine.weights; cells = machine.cells; lent = machine.lent; waiting = waiting; good = machine.good }

-- a bad record changes nothing else
abbrev pub bad : Machine → Machine
bad machine = record { memory = machine.memory; weights = machine.weights; cells = machine.cells; lent = machine.lent; waiting = machine.waiting; good = false }

-- a text is put behind the waiting bytes
abbrev pub with_text : List ℕ → Machine → Machine
with_text text machine = with_waiting (put machine.waiting text) machine

-- how many words are lent, of those that the array has, and the lent words
abbrev pub lent_count : Machine → ℕ
lent_count machine = min machine.lent array_length

abbrev pub lent_words : Machine → List ℕ
lent_words machine = take (lent_count machine) machine.memory

-- the machine after a call with this answer; the words that were not lent are as before
abbrev pub returned : Answered → Machine → Machine
returned answer machine =
    with_text (numbers_line answer.numbers) (with_memory (answer.book ++ drop (lent_count machine) machine.memory) machine)

-- operations 1 to 9, 15 and 17: a call on the lent words, 17 with the line of the listed cells, or a load of the file
unfoldable pub called : ℕ → Words → List ℕ → Machine → Machine
called operation words file machine = returned (answered operation words (listed_line machine.cells) (lent_words machine) file) machine

-- the numbers of a division over the weights into shares: the refusal number, and the shares after the call
abbrev pub division : ℕ → List ℕ → List ℕ → List ℕ
division pool weights shares =
    refusal pool (length weights) (length shares) (sum_of weights) ∷ shares_after pool weights shares

-- operation 10: a division over the listed weights into `size` shares, each of which is 7 before; the list is emptied
unfoldable pub division_done : ℕ → ℕ → Machine → Machine
division_done pool size machine =
    cond (leb size room)
    (with_weights [] (with_text (numbers_line (division pool machine.weights (replicate size 7))) machine))
    (bad machine)

-- operation 11: a weight is listed, where there is room
abbrev pub listed : ℕ → Machine → Machine
listed weight machine = cond (ltb (length machine.weights) room) (with_weights (machine.weights ++ (weight ∷ [])) machine) (bad machine)

-- operation 12: a word of the array is written
abbrev pub poked : ℕ → ℕ → Machine → Machine
poked index value machine = cond (ltb index array_length) (with_memory (set machine.memory index value) machine) (bad machine)

-- operation 13: the first `count` words are lent from now on
abbrev pub lent_anew : ℕ → Machine → Machine
lent_anew count machine = cond (leb count array_length) (with_lent count machine) (bad machine)

-- operations 11 to 13, which print nothing; any other is bad
unfoldable pub changed : ℕ → Words → Machine → Machine
changed operation words machine =
    cond (eqb operation 11) (listed words.first machine)
    (cond (eqb operation 12) (poked words.first words.second machine)
    (cond (eqb operation 13) (lent_anew words.first machine)
    (bad machine)))

-- operation 14: `count` words are printed, those from `start` on
unfoldable pub dumped : ℕ → ℕ → Machine → Machine
dumped start count machine =
    cond (leb (start + count) array_length) (with_text (numbers_line (take count (drop start machine.memory))) machine) (bad machine)

-- operation 16: a cell is listed, where its form is one and there is room
unfoldable pub cell_listed : Words → Machine → Machine
cell_listed words machine =
    cond (ltb 2 words.first || ltb 2 (length machine.cells)) (bad machine) (with_cells (cells_after 16 words machine.cells) machine)

-- operation 17: a line of the listed cells, where they are three, is posted, and the list is emptied
unfoldable pub line_done : Words → List ℕ → Machine → Machine
line_done words file machine = cond (eqb (length machine.cells) 3) (with_cells (cells_after 17 words machine.cells) (called 17 words file machine)) (bad machine)

-- the longest slice of pairs
abbrev pub pair_room : ℕ
pair_room = 600

-- the numbers of a preview: the refusal number, and the slice of pairs after the call
abbrev pub preview_numbers : ℕ → List ℕ → List ℕ → List ℕ
preview_numbers category ws pairs = preview_refusal ws pairs category ∷ preview_pairs ws pairs category

-- operation 18: a preview on the lent words, into `size` words of pairs, each of which is 7 before
unfoldable pub preview_done : ℕ → ℕ → Machine → Machine
preview_done category size machine =
    cond (leb size pair_room) (with_text (numbers_line (preview_numbers category (lent_words machine) (replicate size 7))) machine) (bad machine)

-- what an operation does with the words of its record, 15 with the bytes of its file
unfoldable pub performed : ℕ → Words → List ℕ → Machine → Machine
performed operation words file machine =
    cond ((leb 1 operation && leb operation 9) || eqb operation 15) (called operation words file machine)
    (cond (eqb operation 10) (division_done words.first words.second machine)
    (cond (eqb operation 14) (dumped words.first words.second machine)
    (cond (eqb operation 16) (cell_listed words machine)
    (cond (eqb operation 17) (line_done words file machine)
    (cond (eqb operation 18) (preview_done words.first words.second machine)
    (changed operation words machine))))))
