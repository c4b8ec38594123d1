-- "The program .. prints the heading and one line per used chain, ascending, or `refused` with number, table (0 header) and record
-- (0)." The request adds "`all` and five sums" at the end of a sheet. Assumes nothing.
use Rattle.std.specs.Prelude.{Err, ℕ, zero, suc, ◌+◌, Bool, cond, not, List, [], ◌∷◌, ◌++◌, ltb}
use Rattle.apportion.specs.Grounds.{Ground, first_of, accepted}
use Rattle.apportion.specs.Places.{sum_below}
use Rattle.book.specs.ClassTotal.{class_total}
use Rattle.book.specs.Statements.{of_chain, elements_over, statement_of}
pub use Rattle.book.specs.Statements.{statement_numbers}
use Rattle.book.specs.Statements.{StatementReply}
use Rattle.book_words.specs.Measures.{most_chains}
use Rattle.book_words.specs.Soundness.{sound}
use Rattle.apportion.specs.declared.refusing.Refusal.TheVariants.{Unfit}
use Rattle.report.specs.declared.printing.Unprinted.TheVariants.{Refused}
use Rattle.report.specs.Printing.{Printed, PrintedNumbers, answer_for, numbers_for, buffer_with}
use Rattle.report.specs.Text.{line, word_line}

-- "chain elements waiting operation provision total" and a newline
unfoldable pub heading : List ℕ
heading =
    -- "chain "
    99 ∷ 104 ∷ 97 ∷ 105 ∷ 110 ∷ 32
    -- "elements "
    ∷ 101 ∷ 108 ∷ 101 ∷ 109 ∷ 101 ∷ 110 ∷ 116 ∷ 115 ∷ 32
    -- "waiting "
    ∷ 119 ∷ 97 ∷ 105 ∷ 116 ∷ 105 ∷ 110 ∷ 103 ∷ 32
    -- "operation "
    ∷ 111 ∷ 112 ∷ 101 ∷ 114 ∷ 97 ∷ 116 ∷ 105 ∷ 111 ∷ 110 ∷ 32
    -- "provision "
    ∷ 112 ∷ 114 ∷ 111 ∷ 118 ∷ 105 ∷ 115 ∷ 105 ∷ 111 ∷ 110 ∷ 32
    -- "total" and the newline
    ∷ 116 ∷ 111 ∷ 116 ∷ 97 ∷ 108 ∷ 10 ∷ []

-- a used chain has an element
unfoldable pub is_used : List ℕ → ℕ → Bool
is_used ws chain = ltb 0 (elements_over ws (of_chain chain))

-- the line of a chain: its number and its statement, under the words of the heading
unfoldable pub chain_line : List ℕ → ℕ → List ℕ
chain_line ws chain = line chain (statement_numbers (statement_of ws chain))

-- the lines of the used chains among 1 to n
abbrev pub lines_to : List ℕ → ℕ → List ℕ
lines_to ws zero = []
lines_to ws (suc n) = lines_to ws n ++ cond (is_used ws (suc n)) (chain_line ws (suc n)) []

-- "one line per used chain, ascending"
unfoldable pub chain_lines : List ℕ → List ℕ
chain_lines ws = lines_to ws most_chains

-- "all"
unfoldable pub all_word : List ℕ
all_word = 97 ∷ 108 ∷ 108 ∷ []

-- "the printed statement to end with `all` and five sums: elements, waiting, operation, provision, total"
unfoldable pub all_line : StatementReply → List ℕ
all_line total = word_line all_word (statement_numbers total)

-- the text of a sheet
unfoldable pub sheet_text : List ℕ → List ℕ
sheet_text ws = (heading ++ chain_lines ws) ++ all_line (class_total ws)

-- room enough for it: the heading's 49 bytes, 74 for each of at most 256 lines, and 72 for the last
abbrev pub sheet_room : ℕ
sheet_room = 19_065

-- the sum of a column over the printed lines, which are those of the used chains
abbrev pub column_sum : List ℕ → (StatementReply → ℕ) → ℕ
column_sum ws column = sum_below most_chains (λ j. cond (is_used ws (j + 1)) (column (statement_of ws (j + 1))) 0)

-- the sums of the five columns
abbrev pub column_sums : List ℕ → List ℕ
column_sums ws =
    column_sum ws (λ s. s.elements)
    ∷ column_sum ws (λ s. s.waiting)
    ∷ column_sum ws (λ s. s.operation)
    ∷ column_sum ws (λ s. s.provision)
    ∷ column_sum ws (λ s. s.total)
    ∷ []

-- "1. .. the book is not sound."
abbrev pub sheet_grounds : List ℕ → List Ground
sheet_grounds ws = (1, not (sound ws)) ∷ []

unfoldable pub sheet_refusal : List ℕ → ℕ
sheet_refusal ws = first_of (sheet_grounds ws)

-- the answer for a buffer of `room` bytes, what it says, and the buffer after
unfoldable pub sheet_answer : List ℕ → ℕ → Printed
sheet_answer ws room = accepted (sheet_refusal ws) (answer_for (sheet_text ws) room) (Err (Refused Unfit))

unfoldable pub sheet_numbers : List ℕ → ℕ → PrintedNumbers
sheet_numbers ws room = numbers_for (sheet_refusal ws) (sheet_text ws) room

unfoldable pub sheet_buffer : List ℕ → List ℕ → List ℕ
sheet_buffer ws buffer = accepted (sheet_refusal ws) (buffer_with (sheet_text ws) buffer) buffer

-- "refused"
unfoldable pub refused_word : List ℕ
refused_word = 114 ∷ 101 ∷ 102 ∷ 117 ∷ 115 ∷ 101 ∷ 100 ∷ []

-- "`refused` with number, table (0 header) and record (0)", as `refused 11 0 0`
unfoldable pub refused_text : ℕ → ℕ → ℕ → List ℕ
refused_text number table record_number = word_line refused_word (number ∷ table ∷ record_number ∷ [])
