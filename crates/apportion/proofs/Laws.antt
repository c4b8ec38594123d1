-- The laws of the dividing rule, for the crates above. Of these only `conservation`'s computed table opens the definition.
-- Assumes nothing.
use mathlib.Core.Path.{◌≡◌, ap, ◌∙◌}
use mathlib.Core.Logic.{inl, ⊎_elim}
use mathlib.Core.List.{List}
use Prim.Native.Nat.{ℕ, ◌+◌, ◌*◌, ◌≤◌, ◌<◌}
use native.Mathlib.Nat.{zero-mul, zero-div, mul-le-mul_right, eq-zero-or-pos}
use native.Mathlib.Omega.{arith}
use lib.ListN.{length, get_or-eq_default}
use borrow.Author.Tests.{lt-ltb}
use Rattle.std.proofs.lemmas.Bool.{cases_lt}
use Rattle.apportion.specs.Places.{list_below, at, sum_of}
use Rattle.apportion.specs.Nearness.{Within}
use Rattle.apportion.specs.Dividing.{floor_at, remainder_at, left_over, unit_at, share_at, divided, Divisible}
use Rattle.apportion.proofs.Sums.{sum-add}
use Rattle.apportion.proofs.Lists.{list_length, list_at, list-cong, list-past, list-sum}
use Rattle.apportion.proofs.UnitsByBound.{before-larger, before-equal, unit-before}
use Rattle.apportion.proofs.FloorsAndUnits.{floor-none, remainder-none, left-and-floors, unit-none, unit-of-none, unit-most, units-left}
pub use Rattle.apportion.proofs.FloorsAndUnits.{product, remainder-less}
pub use Rattle.apportion.proofs.PlacesLeftOut.{divided-kept}

module _ (pool : ℕ) (weights : List ℕ) where
  -- there is a share for each weight
  pub shares-length : length (divided pool weights) ≡ length weights
  unfolding divided
  shares-length = list_length (length weights) (share_at pool weights)

  -- a share is the place's floor and the unit that it gets of those left over
  pub share-parts : (k : ℕ) → k < length weights → at (divided pool weights) k ≡ floor_at pool weights k + unit_at pool weights k
  unfolding divided share_at
  share-parts k h = list_at (length weights) (share_at pool weights) k h

  -- The shares sum to the pool.
  pub shares_sum : Divisible pool weights → sum_of (divided pool weights) ≡ pool
  unfolding divided share_at
  shares_sum divisible =
      list-sum (length weights) (share_at pool weights)
      ∙ omega (
        arith,
        sum-add (length weights) (floor_at pool weights) (unit_at pool weights),
        units-left pool weights divisible,
        left-and-floors pool weights,
      )

  -- A pool of 0 gives 0 to each, also where there are no weights or T is 0.
  pub pool-of-zero : pool ≡ 0 → divided pool weights ≡ list_below (length weights) (λ k. 0)
  unfolding divided share_at floor_at
  pool-of-zero e =
      list-cong (length weights) (share_at pool weights) (λ k. 0) (λ k h. rw (unit-of-none pool weights e k, e, zero-mul, zero-div))

  -- A weight of 0 gets 0; there is no weight past the last place.
  pub share-of-zero : Divisible pool weights → (k : ℕ) → at weights k ≡ 0 → at (divided pool weights) k ≡ 0
  unfolding divided
  share-of-zero divisible k e =
      ⊎_elim
      (λ (here : k < length weights).
      omega (arith, share-parts k here, floor-none pool weights k e, unit))
      (λ (past : length weights ≤ k). list-past (length weights) (share_at pool weights) k past)
      (cases_lt k (length weights))
    where
      unit : unit_at pool weights k ≡ 0
      unit =
          ⊎_elim
          (λ (some : 0 < sum_of weights). unit-none pool weights some k (remainder-none pool weights k e))
          (λ (none : pool ≡ 0). unit-of-none pool weights none k)
          divisible

  -- Every share s is less than one unit from its exact part G×w/T, both ways: s×T < G×w + T and G×w < s×T + T.
  pub share-near : 0 < sum_of weights → (k : ℕ) → Within 1 (at (divided pool weights) k) (pool * at weights k) (sum_of weights)
  share-near some k =
      ⊎_elim
      (λ (here : k < length weights). ⊎_elim (exact here) (inexact here) (eq-zero-or-pos (remainder_at pool weights k)))
      (λ (past : length weights ≤ k).
      let none : at weights k ≡ 0 = get_or-eq_default weights 0 past in
      rw (share-of-zero (inl some) k none, none) (omega arith))
      (cases_lt k (length weights))
    where
      times : k < length weights → at (divided pool weights) k * sum_of weights ≡ (floor_at pool weights k + unit_at pool weights k) * sum_of weights
      times here = ap (λ (m : ℕ). m * sum_of weights) (share-parts k here)

      exact : k < length weights → remainder_at pool weights k ≡ 0 → Within 1 (at (divided pool weights) k) (pool * at weights k) (sum_of weights)
      exact here e =
          let t = times here in
          let u = ap (λ (m : ℕ). m * sum_of weights) (unit-none pool weights some k e) in
          let p = product pool weights k in
          omega arith

      inexact : k < length weights → 0 < remainder_at pool weights k → Within 1 (at (divided pool weights) k) (pool * at weights k) (sum_of weights)
      inexact here l =
          let t = times here in
          let u = mul-le-mul_right (sum_of weights) (unit-most pool weights k) in
          let p = product pool weights k in
          let q = remainder-less pool weights some k in
          omega arith

  -- A place with a larger remainder never goes without while one with a smaller remainder gets a unit,
  pub larger-first : (j k : ℕ) → remainder_at pool weights k < remainder_at pool weights j → unit_at pool weights k ≤ unit_at pool weights j
  unfolding unit_at
  larger-first j k l =
      unit-before (length weights) (remainder_at pool weights) (left_over pool weights) j k (before-larger (remainder_at pool weights) j k l)

  -- and of equal remainders the earlier place gets its unit first.
  pub earlier-first : (j k : ℕ) → remainder_at pool weights j ≡ remainder_at pool weights k → j < k → unit_at pool weights k ≤ unit_at pool weights j
  unfolding unit_at
  earlier-first j k e l =
      unit-before (length weights) (remainder_at pool weights) (left_over pool weights) j k
      (before-equal (remainder_at pool weights) j k e ∙ lt-ltb j k l)
