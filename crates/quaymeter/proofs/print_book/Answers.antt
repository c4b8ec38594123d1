-- `quaymeter::print_book` meets its contract: there is room for the sheet. Assumes nothing.
use native.Mathlib.Omega.{arith}
use mathlib.Core.Path.{◌∙◌}
use Rattle.std.proofs.Common.{rules}
use Rattle.report.proofs.Laws.{sheet-printed}
use Rattle.quaymeter.proofs.Printing.{sheet_whole}
use Rattle.quaymeter.proofs.print_book.Goals as goal

pub unwrap-requires : goal.unwrap-requires
unwrap-requires c =
    let written = sheet_whole _ _ c.sheet_sound.ensures.value c.sheet_sound.ensures.book (omega arith) in
    search rules

pub returns-clause-out_after : goal.returns-clause-out_after
returns-clause-out_after c = c.sheet_sound.ensures.out_after ∙ sheet-printed c.args.book.now c.args.out.now c.sheet_sound.ensures.book
