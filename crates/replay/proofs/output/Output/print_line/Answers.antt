-- `replay::output::print_line` meets its contract. Assumes nothing.
use mathlib.Core.Path.{◌∙◌}
use lib.ListN.{drop_of_length-le}
use Rattle.report.specs.Text.{decimal, line, line_end}
use Rattle.replay.proofs.Putting.{put-append, line_step}
use Rattle.replay.proofs.output.Output.print_line.Goals as goal

pub loop-number-preserved : goal.loop-number-preserved
loop-number-preserved c =
    rw (c.put_number-in-loop-number.ensures, c.put_byte.ensures, line_step c.loop-number.self.waiting.items c.args.rest.now c.loop-number.number-index c.loop-number-test.true)
    c.loop-number.invariant

pub returns : goal.returns
unfolding line
returns c =
    let put = rw (drop_of_length-le c.args.rest.now c.loop-number-test.false) at c.loop-number.invariant in
    c.put_byte-2.ensures
    ∙ put
    ∙ rw (c.put_number.ensures, put-append c.args.self.now.waiting.items (decimal c.args.first) (line_end c.args.rest.now))
