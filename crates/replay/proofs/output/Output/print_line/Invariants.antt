-- `replay::output::print_line` meets its contract. The loop's invariant: putting what is left of the line gives what putting all of
-- its end gives. Assumes nothing.
use mathlib.Core.Path.{◌≡◌}
use lib.ListN.{drop}
use Rattle.report.specs.Text.{line_end}
use Rattle.replay.specs.Waiting.{put}
use Rattle.replay.proofs.output.Output.print_line.Given as goal

abbrev pub invariant-loop-number : goal.invariant-loop-number
invariant-loop-number l =
    put l.self.waiting.items (line_end (drop l.number-index l.rest)) ≡ put l.initial.self.waiting.items (line_end l.rest)
