use native.Mathlib.Omega.{arith}
use mathlib.Core.List.{[], ◌∷◌}
use lib.ListN.{length-append}
use lib.Seq.{take_all}
use Rattle.report.specs.Text.{spaced, spaced_number}
use Rattle.report.proofs.Puts.{byte_behind, room-more, put-more}
use Rattle.report.proofs.text.put_line_end.Goals as goal

pub put_spaced-count-requires : goal.put_spaced-count-requires
put_spaced-count-requires c =
    room-more spaced_number _ _ 0 c.loop-number.invariant c.loop-number-test.true (omega (arith, length-append (spaced c.args.numbers.now) (10 ∷ []), c.requires))

pub loop-number-preserved : goal.loop-number-preserved
loop-number-preserved c = put-more spaced_number _ _ 0 c.loop-number.invariant c.loop-number-test.true c.put_spaced-count.ensures

pub returns : goal.returns
returns c =
    let all = take_all c.loop-number.number-index c.args.numbers.now c.loop-number-test.false in
    byte_behind (rw all at c.loop-number.invariant) 10 (omega (arith, length-append (spaced c.args.numbers.now) (10 ∷ []), c.requires))
