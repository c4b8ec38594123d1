-- `report::table::Table::put` meets its contract. Assumes nothing.
use Rattle.report.specs.Inner.Table.{table_text}
use Rattle.report.specs.Sheet.{heading, all_word, all_line}
use Rattle.report.proofs.Puts.{put_behind}
use Rattle.report.proofs.table.Table.put.Goals as goal

pub returns : goal.returns
unfolding table_text heading all_line all_word
returns c = put_behind (put_behind c.put_bytes-heading.ensures c.put_lines.ensures) (rw c.into-numbers.ensures at c.put_word_line.ensures)
