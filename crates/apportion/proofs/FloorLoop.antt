-- The loop that writes the floors and the remainders. Assumes nothing.
use mathlib.Core.Path.{◌≡◌, ap, ◌∙◌}
use mathlib.Core.List.{List}
use Prim.Native.Nat.{ℕ, suc, ◌+◌, ◌*◌, ◌-◌, ◌/◌, ◌%◌, ◌≤◌, ◌<◌}
use native.Mathlib.Omega.{arith}
use lib.ListN.{length, set}
use Rattle.apportion.specs.Places.{sum_below, list_below, at, sum_of}
use Rattle.apportion.specs.Dividing.{floor_at, remainder_at, left_over}
use Rattle.apportion.proofs.Sums.{sum_more, sum-next}
use Rattle.apportion.proofs.Lists.{filled, filled_next, filled-whole}
use Rattle.apportion.proofs.FloorsAndUnits.{floors-within, left-and-floors}

-- Up to place k the floors and the remainders are written, and the floors are taken from the pool.
pub record Flooring (pool : ℕ) (weights floors₀ remainders₀ floors remainders : List ℕ) (left k : ℕ) : Type 0 where
  pub passed : k ≤ length weights
  pub long : (length floors₀ ≡ length weights) × (length remainders₀ ≡ length weights)
  pub floors_are : floors ≡ filled k (floor_at pool weights) floors₀
  pub remainders_are : remainders ≡ filled k (remainder_at pool weights) remainders₀
  pub left_is : left + sum_below k (floor_at pool weights) ≡ pool

module _ {pool : ℕ} {weights floors₀ remainders₀ floors remainders : List ℕ} {left k : ℕ}
    (f : Flooring pool weights floors₀ remainders₀ floors remainders left k) where
  module _ {quotient remainder : ℕ} (here : k < length weights)
      (part : (quotient ≡ pool * at weights k / sum_of weights) × (remainder ≡ pool * at weights k % sum_of weights)) where
    floor-here : quotient ≡ floor_at pool weights k
    unfolding floor_at
    floor-here = part.0

    remainder-here : remainder ≡ remainder_at pool weights k
    unfolding remainder_at
    remainder-here = part.1

    pub flooring-within : quotient ≤ left
    flooring-within =
        omega (arith, floor-here, f.left_is, floors-within pool weights, sum_more (suc k) (length weights) (floor_at pool weights) here)

    pub flooring-next : Flooring pool weights floors₀ remainders₀ (set floors k quotient) (set remainders k remainder) (left - quotient) (k + 1)
    flooring-next =
        record {
          passed = omega arith;
          long = f.long;
          floors_are = rw (f.floors_are, floor-here) (filled_next k (floor_at pool weights) floors₀ (omega (arith, f.long)));
          remainders_are = rw (f.remainders_are, remainder-here) (filled_next k (remainder_at pool weights) remainders₀ (omega (arith, f.long)));
          left_is = omega (arith, flooring-within, floor-here, f.left_is, sum-next k (floor_at pool weights));
        }

  pub flooring-done : length weights ≤ k
      → (left ≡ left_over pool weights)
      × ((floors ≡ list_below (length weights) (floor_at pool weights)) × (remainders ≡ list_below (length weights) (remainder_at pool weights)))
  flooring-done end =
      let whole : k ≡ length weights = omega (arith, f.passed) in (
        omega (arith, f.left_is, left-and-floors pool weights, ap (λ (n : ℕ). sum_below n (floor_at pool weights)) whole),
        (
          f.floors_are ∙ filled-whole k (length weights) (floor_at pool weights) floors₀ whole f.long.0,
          f.remainders_are ∙ filled-whole k (length weights) (remainder_at pool weights) remainders₀ whole f.long.1,
        ),
      )
