-- `report::text::put_line_end` meets its contract: at each turn the numbers before are put. Assumes nothing.
use lib.ListN.{take}
use Rattle.report.specs.Printing.{Put}
use Rattle.report.specs.Text.{spaced}
use Rattle.report.proofs.text.put_line_end.Given as goal

abbrev pub invariant-loop-number : goal.invariant-loop-number
invariant-loop-number l = Put (spaced (take l.number-index l.numbers)) l.initial.out l.out l.count
