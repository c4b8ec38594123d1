-- The text of a sheet by its table, after the last element. Assumes nothing.
use Prim.Native.Nat.{ℕ, zero, suc}
use native.Mathlib.Omega.{arith}
use mathlib.Core.Bool.{Bool, true, false, cond}
use mathlib.Core.List.{List, [], ◌∷◌, ◌++◌, append-nil}
use mathlib.Core.Path.{◌≡◌, refl, ◌∙◌, ap}
use Rattle.std.proofs.lemmas.Grind.{flat_map-append}
use Rattle.std.proofs.lemmas.List.Elements.{All-append}
use Rattle.book.specs.Statements.{of_chain}
use Rattle.book.specs.ClassTotal.{class_total}
use Rattle.book.specs.Walk.{HeldFits}
use Rattle.book.specs.Statements.{StatementReply}
use Rattle.book.proofs.Laws.{held-fit, held-statement}
use Rattle.book_words.specs.Book.{elements}
use Rattle.book_words.specs.Measures.{most_chains}
use Rattle.book_words.specs.Soundness.{sound}
use Rattle.report.specs.declared.table.Row.{Row}
use Rattle.report.specs.Inner.Table.{is_met, row_after, rows_to, rows_after, row_line, row_lines, RowsFit, table_text}
use Rattle.report.specs.Sheet.{heading, all_line, chain_line, chain_lines, lines_to, sheet_text, statement_numbers}
use Rattle.report.specs.Text.{line}
use Rattle.report.proofs.MetChains.{met-used}
use Rattle.report.proofs.TableRows.{own-row}

module _ (ws : List ℕ) where
  -- the line of a chain's row is that of the chain
  row-line : (chain : ℕ) → row_line (row_after ws (elements ws) chain) ≡ chain_line ws chain
  unfolding row_line chain_line
  row-line chain = ap (λ (s : StatementReply). line chain (statement_numbers s)) (held-statement ws chain)

  -- so the lines of the rows are those of the used chains, ascending, where no element is on chain 0
  rows-lines : is_met ws (elements ws) 0 ≡ false → (n : ℕ) → row_lines (rows_to ws (elements ws) n) ≡ lines_to ws n
  rows-lines none zero = rw none refl
  rows-lines none (suc n) =
      flat_map-append row_line (rows_to ws (elements ws) n) _
      ∙ rw (rows-lines none n, ← met-used ws (suc n)) (ap (λ (l : List ℕ). lines_to ws n ++ l) (go (is_met ws (elements ws) (suc n))))
    where
      go : (met : Bool) → row_lines (cond met (row_after ws (elements ws) (suc n) ∷ []) []) ≡ cond met (chain_line ws (suc n)) []
      go true = append-nil (row_line (row_after ws (elements ws) (suc n))) ∙ row-line (suc n)
      go false = refl

  lines : is_met ws (elements ws) 0 ≡ false → {rows : List Row} → rows ≡ rows_after ws (elements ws) → row_lines rows ≡ chain_lines ws
  unfolding rows_after chain_lines
  lines none table = ap row_lines table ∙ rows-lines none most_chains

  pub table-text : is_met ws (elements ws) 0 ≡ false → {rows : List Row} {total : StatementReply} → rows ≡ rows_after ws (elements ws)
      → total ≡ class_total ws → table_text rows total ≡ sheet_text ws
  unfolding table_text sheet_text
  table-text none table all = λ i. (heading ++ lines none table i) ++ all_line (all i)

  -- what the rows hold has sums within the limits
  rows-fit : sound ws ≡ true → (n : ℕ) → RowsFit (rows_to ws (elements ws) n)
  rows-fit fine zero =
      own-row (λ (row : Row). HeldFits row.held) ws (elements ws) 0 (held-fit ws (of_chain 0) fine (elements ws) (omega arith) refl)
  rows-fit fine (suc n) =
      All-append (λ (row : Row). HeldFits row.held) (rows_to ws (elements ws) n) _ (rows-fit fine n)
      (own-row (λ (row : Row). HeldFits row.held) ws (elements ws) (suc n) (held-fit ws (of_chain (suc n)) fine (elements ws) (omega arith) refl))

  pub table_fits : sound ws ≡ true → {rows : List Row} → rows ≡ rows_after ws (elements ws) → RowsFit rows
  unfolding rows_after
  table_fits fine table = rw table (rows-fit fine most_chains)
