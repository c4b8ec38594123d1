-- What the records of the input do, one after the other: operations, and the bytes of files. Assumes nothing.
use Rattle.std.specs.Prelude.{ℕ, zero, suc, ◌+◌, ◌-◌, ◌/◌, min, cond, ◌&&◌, List, [], ◌++◌, eqb, ltb, leb, length, take, drop}
use Rattle.apportion.specs.Places.{one_if}
use Rattle.book_file.specs.File.{most_bytes}
use Rattle.replay.specs.declared.records.Words.{Words}
use Rattle.replay.specs.declared.state.State.{State}
use Rattle.replay.specs.Words.{words_of}
use Rattle.replay.specs.Text.{bad_line}
use Rattle.replay.specs.Replay.{Machine, machine_of, started, bad, with_text, performed}

-- the bytes of a record
abbrev pub record_bytes : ℕ
record_bytes = 64

-- room for the bytes of a file: one record more than the longest that is loaded
abbrev pub file_room : ℕ
file_room = most_bytes + record_bytes

-- the machine; a file that is on its way, the bytes that have come and how many are to come; and how many records have been handled
pub record Stage : Type 0 where
  pub machine : Machine
  pub file : List ℕ
  pub missing : ℕ
  pub passed : ℕ

-- the stage that the program's state holds
abbrev pub stage_of : State → Stage
stage_of state =
    record {
      machine = machine_of state;
      file = state.file.items;
      missing = state.missing;
      passed = state.passed;
    }

-- before the first record
abbrev pub first_stage : Stage
first_stage = record { machine = started; file = []; missing = 0; passed = 0 }

-- a stage after something is done to its machine, with another file on its way, and with one record more
abbrev pub on_machine : (Machine → Machine) → Stage → Stage
on_machine does stage =
    record { machine = does stage.machine; file = stage.file; missing = stage.missing; passed = stage.passed }

abbrev pub with_file : List ℕ → ℕ → Stage → Stage
with_file file missing stage = record { machine = stage.machine; file = file; missing = missing; passed = stage.passed }

abbrev pub counted : Stage → Stage
counted stage = record { machine = stage.machine; file = stage.file; missing = stage.missing; passed = stage.passed + 1 }

-- an operation is performed where no byte of its file is missing
unfoldable pub due : ℕ → Words → Stage → Stage
due operation words stage =
    cond (ltb 0 stage.missing) stage (on_machine (performed operation words stage.file) stage)

-- a record of bytes of the file, of which the last may have more than are missing. The room does not run out: the whole length
-- was looked at
abbrev pub taken : List ℕ → Stage → Stage
taken bytes stage =
    with_file
    (take (file_room - min stage.missing record_bytes) stage.file ++ take (min stage.missing record_bytes) bytes)
    (stage.missing - min stage.missing record_bytes)
    stage

-- the words of a record; with operation 15 a file of the given length is to come, where there is room
unfoldable pub operated : Words → Stage → Stage
operated words stage =
    cond (eqb words.operation 15)
    (cond (leb words.first file_room) (due 15 words (with_file [] words.first stage)) (on_machine bad stage))
    (due words.operation words stage)

-- what the record at the start of the bytes does; one that is cut short is bad
unfoldable pub handled : List ℕ → Stage → Stage
handled bytes stage =
    cond (ltb (length bytes) record_bytes) (on_machine bad stage)
    (cond (ltb 0 stage.missing) (due 15 (words_of bytes) (taken bytes stage)) (operated (words_of bytes) stage))

-- what `left` records at the start of the bytes do; a bad one is the last
abbrev pub replayed_of : ℕ → List ℕ → Stage → Stage
replayed_of zero bytes stage = stage
replayed_of (suc left) bytes stage =
    cond (handled bytes (counted stage)).machine.good
    (replayed_of left (drop record_bytes bytes) (handled bytes (counted stage)))
    (handled bytes (counted stage))

-- how many records the bytes are, the last of which may be cut short
abbrev pub records_in : List ℕ → ℕ
records_in bytes = (length bytes + 63) / record_bytes

-- what the records of the bytes do
abbrev pub replayed : List ℕ → Stage → Stage
replayed bytes stage = replayed_of (records_in bytes) bytes stage

-- the number of a bad record: the last that was handled, or where none was bad the one that did not come
abbrev pub bad_number : Stage → ℕ
bad_number stage = stage.passed + one_if stage.machine.good

-- the input ends: a bad record has its line, and where a file is still to come, so has the record that did not come
unfoldable pub ended : Stage → Machine
ended stage =
    cond (stage.machine.good && eqb stage.missing 0) stage.machine (with_text (bad_line (bad_number stage)) stage.machine)
