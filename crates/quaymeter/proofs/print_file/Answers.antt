-- `quaymeter::print_file` meets its contract. Assumes nothing.
use native.Mathlib.Omega.{arith}
use Rattle.quaymeter.specs.Program.{zero_words}
use Rattle.quaymeter.proofs.Printing.{printed-front}
use Rattle.quaymeter.proofs.print_file.Goals as goal

pub returns-clause-out_after : goal.returns-clause-out_after
returns-clause-out_after c =
    printed-front zero_words c.args.file.now c.args.out.now (omega arith) c.print_loaded.ensures.value c.print_loaded.ensures.out_after
