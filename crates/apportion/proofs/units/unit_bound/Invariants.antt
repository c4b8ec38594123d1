-- `apportion::units::unit_bound` meets its contract: as many as are left over reach `low`, and no more reach `high`.
-- Assumes nothing.
use Prim.Native.Nat.{◌-◌, ◌≤◌, ◌<◌}
use Rattle.apportion.specs.Inner.Units.{count_at_least}
use Rattle.apportion.proofs.units.unit_bound.Given as goal

abbrev pub invariant-loop-high : goal.invariant-loop-high
invariant-loop-high l = (l.low < l.high) × (l.high ≤ l.total) × (count_at_least l.remainders l.high ≤ l.left) × (l.left ≤ count_at_least l.remainders l.low)

abbrev pub decreases-loop-high : goal.decreases-loop-high
decreases-loop-high l = l.high - l.low
