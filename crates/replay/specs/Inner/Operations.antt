-- What an operation does, by what it carries: what inner functions promise. Assumes nothing.
use Rattle.std.specs.Prelude.{ℕ, ◌≡◌, ◌≤◌, cond, List, [], ◌∷◌, ◌++◌, eqb, ltb, leb, length, MatchResult, Result}
use Rattle.book.specs.Replies.{Reply}
use Rattle.book.specs.Calls.{fresh_refusal, fresh_book}
use Rattle.book.specs.Statements.{statement_reply}
use Rattle.book_file.specs.Loading.{load_numbers, load_book}
use Rattle.book_shares.specs.Intensities.{intensity_reply}
use Rattle.conservation.specs.declared.Call.{Call}
use Rattle.conservation.specs.declared.Call.TheVariants.{Line as CallLine, Strike, Close}
use Rattle.conservation.specs.Runs.{step}
use Rattle.workbook.specs.declared.cells.Cell.{Cell}
use Rattle.replay.specs.declared.operations.Operation.{Operation}
use Rattle.replay.specs.declared.operations.Operation.TheVariants.{Fresh, Make, Statement, Intensity, Divide, Weight, Poke, Lend, Dump, Load, List as ListCell, Line, Preview}
use Rattle.replay.specs.declared.records.BadRecord.{BadRecord}
use Rattle.replay.specs.declared.records.Words.{Words}
use Rattle.replay.specs.Answers.{answering, statement_reply_numbers, intensity_numbers, file_numbers}
use Rattle.replay.specs.Cells.{listed_line, with_cell}
use Rattle.replay.specs.Replay.{Machine, bad, with_cells, lent_words, returned, division_done, listed, poked, lent_anew, dumped, preview_done}
use Rattle.replay.specs.Stages.{file_room, Stage, on_machine, with_file, operated}

-- a fresh book
abbrev pub fresh_made : Machine → Machine
fresh_made machine = returned (answering (fresh_refusal (lent_words machine) ∷ []) (fresh_book (lent_words machine))) machine

-- the numbers of a reply, of which strike and close have the refusal number alone
abbrev pub call_numbers : Call → Reply → List ℕ
call_numbers (Strike entry) reply = reply.refusal ∷ []
call_numbers (Close category) reply = reply.refusal ∷ []
call_numbers call reply = reply.refusal ∷ reply.number ∷ []

-- a call that writes
abbrev pub made : Call → Machine → Machine
made call machine =
    returned (answering (call_numbers call (step (lent_words machine) call).reply) (step (lent_words machine) call).book) machine

-- a statement and an intensity leave the words as they are
abbrev pub stated : ℕ → Machine → Machine
stated chain machine = returned (answering (statement_reply_numbers (statement_reply (lent_words machine) chain)) (lent_words machine)) machine

abbrev pub intensity_told : ℕ → ℕ → Machine → Machine
intensity_told category code machine =
    returned (answering (intensity_numbers (intensity_reply (lent_words machine) category code)) (lent_words machine)) machine

-- a cell is listed, where there is room
abbrev pub cell_put : Cell → Machine → Machine
cell_put cell machine = cond (ltb 2 (length machine.cells)) (bad machine) (with_cells (with_cell cell machine.cells) machine)

-- a line of the listed cells, where they are three, is posted, and the list is emptied
abbrev pub line_made : ℕ → ℕ → Machine → Machine
line_made category group machine =
    cond (eqb (length machine.cells) 3)
    (with_cells [] (made (CallLine (record { category = category; group = group; line = listed_line machine.cells })) machine))
    (bad machine)

-- the file is loaded, once no byte of it is missing
abbrev pub loaded : List ℕ → Machine → Machine
loaded file machine = returned (answering (file_numbers (load_numbers (lent_words machine) file)) (load_book (lent_words machine) file)) machine

abbrev pub load_due : Stage → Stage
load_due stage = cond (ltb 0 stage.missing) stage (on_machine (loaded stage.file) stage)

-- a file of this length is to come, where there is room
abbrev pub load_begun : ℕ → Stage → Stage
load_begun length stage = cond (leb length file_room) (load_due (with_file [] length stage)) (on_machine bad stage)

-- what an operation does
unfoldable pub operation_done : Operation → Stage → Stage
operation_done Fresh stage = on_machine fresh_made stage
operation_done (Make call) stage = on_machine (made call) stage
operation_done (Statement chain) stage = on_machine (stated chain) stage
operation_done (Intensity category code) stage = on_machine (intensity_told category code) stage
operation_done (Divide pool size) stage = on_machine (division_done pool size) stage
operation_done (Weight weight) stage = on_machine (listed weight) stage
operation_done (Poke index word) stage = on_machine (poked index word) stage
operation_done (Lend count) stage = on_machine (lent_anew count) stage
operation_done (Dump start count) stage = on_machine (dumped start count) stage
operation_done (Load length) stage = load_begun length stage
operation_done (ListCell cell) stage = on_machine (cell_put cell) stage
operation_done (Line category group) stage = on_machine (line_made category group) stage
operation_done (Preview category size) stage = on_machine (preview_done category size) stage

-- the words of a record ask for this operation, or for none: where no byte of a file is missing, they do what it does, or are bad
unfoldable pub AsksFor : Words → Result Operation BadRecord → Type 0
AsksFor words asked =
    (stage : Stage) → stage.missing ≤ 0
    → MatchResult asked (λ operation. operated words stage ≡ operation_done operation stage) (λ none. operated words stage ≡ on_machine bad stage)
