use mathlib.Core.Path.{◌≡◌}
use mathlib.Core.List.{List}
use Prim.Native.Nat.{ℕ, suc}
use native.Mathlib.Omega.{arith}
use lib.ListN.{length}
use Rattle.apportion.specs.Places.{at}
use Rattle.apportion.specs.Inner.Units.{count_at_least, Bound}
use Rattle.apportion.proofs.UnitsByBound.{reach-down}
use Rattle.apportion.proofs.units.unit_bound.Goals as goal

-- a number that as many reach as there are units left over
reached-exactly : (remainders : List ℕ) (left least : ℕ) → count_at_least remainders least ≡ left → Bound remainders left least
unfolding count_at_least
reached-exactly remainders left least e = record {
  above = omega (arith, reach-down (length remainders) (at remainders) least (suc least) (omega arith), e);
  reached = omega arith;
}

pub returns-then-count-left-clause-bound : goal.returns-then-count-left-clause-bound
returns-then-count-left-clause-bound c =
    reached-exactly c.args.remainders.now _ _ (omega (arith, c.count_at_least-count.ensures))
