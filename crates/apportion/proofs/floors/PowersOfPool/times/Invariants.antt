-- `apportion::floors::PowersOfPool::times` meets its contract: the sum of the powers at the bits taken and pool × the rest of the weight
-- are pool × weight. Assumes nothing.
use Rattle.apportion.proofs.Powers.{Adding}
use Rattle.apportion.proofs.floors.PowersOfPool.times.Given as goal

abbrev pub invariant-loop-rest : goal.invariant-loop-rest
invariant-loop-rest l = Adding l.self.of.pool l.weight l.self.of.total l.sum l.rest

abbrev pub decreases-loop-rest : goal.decreases-loop-rest
decreases-loop-rest l = l.rest
