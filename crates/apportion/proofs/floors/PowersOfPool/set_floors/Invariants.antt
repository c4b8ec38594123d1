-- `apportion::floors::PowersOfPool::set_floors` meets its contract: up to place k the floors and remainders are those of the definition, and
-- `left` is the pool without these floors. Assumes nothing.
use Rattle.apportion.proofs.FloorLoop.{Flooring}
use Rattle.apportion.proofs.floors.PowersOfPool.set_floors.Given as goal

abbrev pub invariant-loop-k : goal.invariant-loop-k
invariant-loop-k l = Flooring l.self.of.pool l.self.of.weights.now l.initial.floors l.initial.remainders l.floors l.remainders l.left l.k
