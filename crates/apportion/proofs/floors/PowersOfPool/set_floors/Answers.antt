use native.Mathlib.Omega.{arith}
use Rattle.apportion.proofs.FloorsAndUnits.{weight-within}
use Rattle.apportion.proofs.FloorLoop.{flooring-within, flooring-next, flooring-done}
use Rattle.apportion.proofs.floors.PowersOfPool.set_floors.Goals as goal

pub times-part-requires : goal.times-part-requires
times-part-requires c = record {
  weight_le_total = omega (arith, weight-within c.args.self.now.of.weights.now c.loop-k.k c.loop-k-test.true, c.args.self.now.of.accepted.total_is);
}

pub overflow_sub-left : goal.overflow_sub-left
overflow_sub-left c =
    flooring-within c.loop-k.invariant c.loop-k-test.true
    (rw c.args.self.now.of.accepted.total_is at c.times-part.ensures)

pub loop-k-preserved : goal.loop-k-preserved
loop-k-preserved c =
    flooring-next c.loop-k.invariant c.loop-k-test.true
    (rw c.args.self.now.of.accepted.total_is at c.times-part.ensures)

pub returns-clause-value : goal.returns-clause-value
returns-clause-value c = (flooring-done c.loop-k.invariant c.loop-k-test.false).0
