use mathlib.Core.Path.{◌≡◌}
use Prim.Native.Nat.{◌+◌}
use native.Mathlib.Omega.{arith}
use lib.ListN.{length}
use Rattle.apportion.specs.Places.{at, sum_of}
use Rattle.apportion.proofs.Sums.{sum_more, sum-next}
use Rattle.apportion.proofs.capped_total.Goals as goal

pub returns-then-weight-sum : goal.returns-then-weight-sum
unfolding sum_of
returns-then-weight-sum c =
    let weights = c.args.weights.now in
    omega (arith, sum_more (c.loop-weight.weight-index + 1) (length weights) (at weights) (omega arith), sum-next c.loop-weight.weight-index (at weights))

pub returns : goal.returns
unfolding sum_of
returns c =
    let end : c.loop-weight.weight-index ≡ length c.args.weights.now = omega arith in
    omega (arith, rw end at c.loop-weight.invariant.1)
