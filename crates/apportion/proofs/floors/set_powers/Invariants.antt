-- `apportion::floors::set_powers` meets its contract: below the place that is reached the list holds the powers, and the next one
-- is at hand. Assumes nothing.
use Rattle.apportion.proofs.Powers.{Making}
use Rattle.apportion.proofs.floors.set_powers.Given as goal

abbrev pub invariant-loop-place : goal.invariant-loop-place
invariant-loop-place l = Making l.pool l.total l.by_bit l.power l.step l.place-index
