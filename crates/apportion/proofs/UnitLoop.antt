-- The loop that hands out the units left over. Assumes nothing.
use mathlib.Core.Path.{◌≡◌, sym, ◌∙◌}
use mathlib.Core.List.{List}
use Prim.Native.Nat.{ℕ, ◌+◌, ◌-◌, ◌≤◌, ◌<◌}
use native.Mathlib.Numerals.{add-one}
use native.Mathlib.Omega.{arith}
use lib.Dec.{eqb}
use lib.ListN.{length, set}
use Rattle.apportion.specs.Places.{one_if, count_below, at}
use Rattle.apportion.specs.Dividing.{unit_for}
use Rattle.apportion.specs.Inner.Units.{count_at_least, Bound, unit_by, with_units}
use Rattle.apportion.proofs.Sums.{sum-next, count_most}
use Rattle.apportion.proofs.Lists.{filled, filled_next, filled-whole, filled_at}
use Rattle.apportion.proofs.UnitsByBound.{unit-by}

-- the share of place k with its unit
abbrev served : List ℕ → ℕ → List ℕ → ℕ → ℕ
served remainders left shares₀ k = at shares₀ k + unit_for (length remainders) (at remainders) left k

-- Up to place k the units are added, and so many of these places are at the bound.
pub record Handing (remainders : List ℕ) (least left : ℕ) (shares₀ shares : List ℕ) (earlier k : ℕ) : Type 0 where
  pub passed : k ≤ length remainders
  pub long : length shares₀ ≡ length remainders
  pub bound : Bound remainders left least
  pub shares_are : shares ≡ filled k (served remainders left shares₀) shares₀
  pub earlier_is : earlier ≡ count_below k (λ j. eqb (at remainders j) least)

module _ {remainders : List ℕ} {least left : ℕ} {shares₀ shares : List ℕ} {earlier k : ℕ} (s : Handing remainders least left shares₀ shares earlier k) where
  pub handing-few : earlier ≤ k
  handing-few = omega (arith, s.earlier_is, count_most k (λ j. eqb (at remainders j) least))

  pub handing-done : length remainders ≤ k → shares ≡ with_units remainders left shares₀
  unfolding with_units
  handing-done end =
      s.shares_are ∙ filled-whole k (length remainders) (served remainders left shares₀) shares₀ (omega (arith, s.passed)) s.long

  module _ (here : k < length remainders) where
    pub handing-at : at shares k ≡ at shares₀ k
    handing-at = rw s.shares_are (filled_at k (served remainders left shares₀) shares₀ (omega (arith, s.long)))

    module _ {equal unit : ℕ} (Equal-is : equal ≡ left - count_at_least remainders (least + 1))
        (unit-is : unit ≡ unit_by (at remainders k) least earlier equal) where
      unit-here : unit ≡ unit_for (length remainders) (at remainders) left k
      unfolding count_at_least
      unit-here =
          unit-is ∙ rw (Equal-is, add-one, s.earlier_is)
          (sym (unit-by (length remainders) (at remainders) left least s.bound.above s.bound.reached k here))

      shares-next : set shares k (at shares k + unit) ≡ filled (k + 1) (served remainders left shares₀) shares₀
      shares-next =
          rw (handing-at, unit-here, s.shares_are) (filled_next k (served remainders left shares₀) shares₀ (omega (arith, s.long)))

      -- a turn of the loop: `earlier` counts place k where it is at the bound
      pub handing-next : {earlier' : ℕ} → earlier' ≡ earlier + one_if (eqb (at remainders k) least)
          → Handing remainders least left shares₀ (set shares k (at shares k + unit)) earlier' (k + 1)
      handing-next counted =
          record {
            passed = omega arith;
            long = s.long;
            bound = s.bound;
            shares_are = shares-next;
            earlier_is = counted ∙ rw s.earlier_is (sym (sum-next k (λ j. one_if (eqb (at remainders j) least))));
          }
