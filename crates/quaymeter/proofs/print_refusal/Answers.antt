-- `quaymeter::print_refusal` meets its contract: there is room for the line. Assumes nothing.
use native.Mathlib.Omega.{arith}
use Rattle.std.proofs.Common.{rules}
use Rattle.quaymeter.proofs.Printing.{line_whole}
use Rattle.quaymeter.proofs.print_refusal.Goals as goal

pub unwrap-requires : goal.unwrap-requires
unwrap-requires c =
    let written = line_whole _ _ _ _ c.refusal_line.ensures.value (omega arith) in
    search rules
