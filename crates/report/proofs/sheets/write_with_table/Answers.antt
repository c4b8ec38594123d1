-- `report::sheets::write_with_table` meets its contract: the text by the table is the sheet's. Assumes nothing.
use native.Mathlib.Omega.{arith}
use mathlib.Core.Path.{◌∙◌, ap}
use lib.ListN.{length}
use Rattle.report.proofs.Lines.{sheet-fits}
use Rattle.report.proofs.TableLines.{table-text, table_fits}
use Rattle.report.proofs.TableRows.{zero-unmet}
use Rattle.report.proofs.sheets.write_with_table.Goals as goal

pub invariant_of-table : goal.invariant_of-table
invariant_of-table g c = record { fit = table_fits c.args.book.now c.collect-total.ensures.book (c.deref.ensures.0 ∙ c.collect-total.ensures.table) }

pub put-requires : goal.put-requires
put-requires g c =
    omega (
      arith,
      ap length (table-text c.args.book.now (zero-unmet c.args.book.now c.collect-total.ensures.book) (c.deref.ensures.0 ∙ c.collect-total.ensures.table) c.collect-total.ensures.value),
      sheet-fits c.args.book.now c.collect-total.ensures.book,
      c.requires.sheet_room_in_bounds,
    )

pub returns : goal.returns
returns g c = rw (← table-text c.args.book.now (zero-unmet c.args.book.now c.collect-total.ensures.book) (c.deref.ensures.0 ∙ c.collect-total.ensures.table) c.collect-total.ensures.value) c.put.ensures
