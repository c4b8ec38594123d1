use Prim.Native.Nat.{ℕ}
use mathlib.Core.List.{List}
use mathlib.Core.Path.{◌≡◌, ◌∙◌, ap}
use lib.ListN.{get_or}
use Rattle.book.specs.Statements.{reply_with, statement_numbers}
use Rattle.book.specs.Walk.{with_total}
use Rattle.book.specs.declared.replies.Statement.{Statement}
use Rattle.report.specs.declared.table.Row.{Row}
use Rattle.report.specs.Inner.Table.{row_line}
use Rattle.report.specs.Text.{line}
use Rattle.report.proofs.Puts.{room-more, put-more}
use Rattle.report.proofs.TableRows.{none}
use Rattle.report.proofs.table.Table.put_lines.Goals as goal

-- the line of what a row holds, with the total
line-of : (row : Row) {s : Statement} {numbers : List ℕ} → numbers ≡ statement_numbers (reply_with s) → reply_with s ≡ with_total row.held
    → line row.chain numbers ≡ row_line row
unfolding row_line
line-of row are is = ap (line row.chain) (are ∙ ap statement_numbers is)

pub put_line-count-requires : goal.put_line-count-requires
put_line-count-requires c =
    rw (line-of (get_or c.args.self.now.rows.now c.loop-row.row-index none) c.into-numbers.ensures c.with_total.ensures)
    (room-more row_line _ _ none c.loop-row.invariant c.loop-row-test.true c.requires)

pub loop-row-preserved : goal.loop-row-preserved
loop-row-preserved c =
    put-more row_line _ _ none c.loop-row.invariant c.loop-row-test.true
    (rw (line-of (get_or c.args.self.now.rows.now c.loop-row.row-index none) c.into-numbers.ensures c.with_total.ensures) at c.put_line-count.ensures)
