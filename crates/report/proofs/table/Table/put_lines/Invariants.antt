-- `report::table::Table::put_lines` meets its contract: at each turn the lines of the rows before are put. Assumes nothing.
use lib.ListN.{take}
use Rattle.report.specs.Inner.Table.{row_lines}
use Rattle.report.specs.Printing.{Put}
use Rattle.report.proofs.table.Table.put_lines.Given as goal

abbrev pub invariant-loop-row : goal.invariant-loop-row
invariant-loop-row l = Put (row_lines (take l.row-index l.self.rows.now)) l.initial.out l.out l.count
