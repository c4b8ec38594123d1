-- `apportion::capped_total` meets its contract: up to a place the sum is that of the definition and within 10^18; once it would pass 10^18,
-- so does the whole. Assumes nothing.
use mathlib.Core.Path.{◌≡◌}
use Prim.Native.Nat.{◌≤◌}
use Rattle.apportion.specs.Places.{sum_below, at}
use Rattle.apportion.specs.Dividing.{most_total}
use Rattle.apportion.proofs.capped_total.Given as goal

abbrev pub invariant-loop-weight : goal.invariant-loop-weight
invariant-loop-weight l = (l.sum ≤ most_total) × (l.sum ≡ sum_below l.weight-index (at l.weights))
