-- `replay::output::print_call` meets its contract. Assumes nothing.
use mathlib.Core.Path.{refl}
use Prim.Native.Nat.{ℕ}
use Rattle.std.proofs.lemmas.List.{take-replicate}
use Rattle.replay.specs.Text.{numbers_line}
use Rattle.replay.proofs.output.Output.print_call.Goals as goal

pub returns : goal.returns
unfolding numbers_line
returns g c = (
  c.call-answer.result,
  c.call-answer.new.arg2,
  record { shown = _; shows = take-replicate {X = ℕ} c.args.size 600 7 c.requires.room; left = _; met = c.call-answer.ensures; leaves = refl },
  rw (c.print_line.ensures, c.refusal_number.ensures),
)
