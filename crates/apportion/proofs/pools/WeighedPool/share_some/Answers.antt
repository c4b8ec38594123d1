-- `apportion::pools::WeighedPool::share_some` meets its contract: the floors, the bound and the units, each asked what the one before gave.
-- Assumes nothing.
use mathlib.Core.List.{List}
use mathlib.Core.Path.{◌≡◌, ◌∙◌}
use Prim.Native.Nat.{ℕ}
use lib.ListN.{length}
use Rattle.apportion.specs.declared.pools.WeighedPool.{WeighedPool}
use Rattle.apportion.specs.Dividing.{floor_at, left_over, remainder_at}
use Rattle.apportion.specs.Places.{list_below}
use Rattle.apportion.proofs.AcceptedDivision.{Floored, bound-asked, floors-small, shares_are}
use Rattle.apportion.proofs.pools.WeighedPool.share_some.Goals as goal

-- what the floors of this pool left
floored : (self : WeighedPool) {left : ℕ} {floors remainders : List ℕ} → left ≡ left_over self.pool self.weights.now
    → floors ≡ list_below (length self.weights.now) (floor_at self.pool self.weights.now)
    → remainders ≡ list_below (length self.weights.now) (remainder_at self.pool self.weights.now)
    → Floored self.pool self.total self.weights.now left floors remainders
floored self left floors remainders =
    record { accepted = self.accepted; left_is = left; floors_are = floors; remainders_are = remainders }

pub unit_bound-least-requires : goal.unit_bound-least-requires
unit_bound-least-requires c =
    bound-asked (floored c.args.self c.set_floors-left.ensures.value c.set_floors-left.ensures.floors_after c.set_floors-left.ensures.remainders_after)

pub add_units-requires-clause-by_index : goal.add_units-requires-clause-by_index
add_units-requires-clause-by_index c =
    floors-small (floored c.args.self c.set_floors-left.ensures.value c.set_floors-left.ensures.floors_after c.set_floors-left.ensures.remainders_after)

pub returns-clause-shares_after : goal.returns-clause-shares_after
returns-clause-shares_after c =
    c.add_units.ensures
    ∙ shares_are (floored c.args.self c.set_floors-left.ensures.value c.set_floors-left.ensures.floors_after c.set_floors-left.ensures.remainders_after)
