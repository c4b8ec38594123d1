-- The units left over by a bound on the remainders: what inner functions require and promise. Assumes nothing.
use Rattle.std.specs.Prelude.{List, ◌&&◌, ℕ, suc, ◌+◌, ◌≤◌, ltb, leb, eqb, length}
use Rattle.apportion.specs.Places.{one_if, count_below, list_below, at}
use Rattle.apportion.specs.Dividing.{unit_for}

-- how many of the first n remainders are at least the bound
abbrev pub reach : ℕ → (ℕ → ℕ) → ℕ → ℕ
reach n remainder bound = count_below n (λ k. leb bound (remainder k))

-- how many remainders of a list are at least the bound
unfoldable pub count_at_least : List ℕ → ℕ → ℕ
count_at_least remainders bound = reach (length remainders) (at remainders) bound

-- `least` is a bound by which `left` units can be handed out: at most so many remainders are above it, and at
-- least so many reach it
pub record Bound (remainders : List ℕ) (left least : ℕ) : Type 0 where
  pub above : count_at_least remainders (suc least) ≤ left
  pub reached : left ≤ count_at_least remainders least

-- the unit of a place by the bound: one above it, and one at it while fewer earlier places are at it than units are
-- left for them
abbrev pub unit_by : ℕ → ℕ → ℕ → ℕ → ℕ
unit_by remainder least earlier equal = one_if (ltb least remainder) + one_if (eqb remainder least && ltb earlier equal)

-- the shares with the units that are left over added
unfoldable pub with_units : List ℕ → ℕ → List ℕ → List ℕ
with_units remainders left shares =
    list_below (length remainders) (λ k. at shares k + unit_for (length remainders) (at remainders) left k)
