-- The table of a sheet: a row for each chain that is met, which one walk over the elements fills; what its functions require and
-- promise. Assumes nothing.
use Rattle.std.specs.Prelude.{ℕ, zero, suc, Bool, cond, List, [], ◌∷◌, ◌++◌, ltb, eqb}
use Rattle.std.specs.List.{All, flat_map}
use Rattle.book.specs.Statements.{StatementReply, of_chain, statement_numbers}
use Rattle.book.specs.Walk.{HeldFits, held_after, nothing, with_total}
use Rattle.book.specs.declared.walks.Held.{Held}
use Rattle.book_words.specs.Measures.{most_chains}
use Rattle.report.specs.declared.table.Row.{Row}
use Rattle.report.specs.Sheet.{heading, all_line}
use Rattle.report.specs.Text.{line}

-- a chain is met among the first k elements: the walk of its statement then holds one. After all elements these are the used chains
abbrev pub is_met : List ℕ → ℕ → ℕ → Bool
is_met ws k chain = ltb 0 (held_after ws (of_chain chain) k).elements

-- the row of a chain after the first k elements: what the walk of its statement holds
abbrev pub row_after : List ℕ → ℕ → ℕ → Row
row_after ws k chain = record { chain = chain; held = held_after ws (of_chain chain) k }

-- the rows of the chains among 0 to n that are met, ascending; none of a sound book's elements is on chain 0
abbrev pub rows_to : List ℕ → ℕ → ℕ → List Row
rows_to ws k zero = cond (is_met ws k 0) (row_after ws k 0 ∷ []) []
rows_to ws k (suc n) = rows_to ws k n ++ cond (is_met ws k (suc n)) (row_after ws k (suc n) ∷ []) []

-- the table after the first k elements
unfoldable pub rows_after : List ℕ → ℕ → List Row
rows_after ws k = rows_to ws k most_chains

-- what a table holds for a chain: what is in the chain's row, and nothing where it has none
abbrev pub held_for : List Row → ℕ → Held
held_for [] chain = nothing
held_for (row ∷ rows) chain = cond (eqb row.chain chain) row.held (held_for rows chain)

-- the line of a row; the lines of rows, one after the other
unfoldable pub row_line : Row → List ℕ
row_line row = line row.chain (statement_numbers (with_total row.held))

abbrev pub row_lines : List Row → List ℕ
row_lines rows = flat_map row_line rows

-- what each row holds has sums within 10^18
abbrev pub RowsFit : List Row → Type 0
RowsFit rows = All (λ row. HeldFits row.held) rows

-- the text of a sheet by its table: the rows, and the class total
unfoldable pub table_text : List Row → StatementReply → List ℕ
table_text rows total = (heading ++ row_lines rows) ++ all_line total
