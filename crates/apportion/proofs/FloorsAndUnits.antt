-- The floors, the remainders and the units left over of a division, by its definition. Assumes nothing.
use mathlib.Core.Path.{◌≡◌, refl, ap}
use mathlib.Core.Bool.{Bool, true, false}
use mathlib.Core.Logic.{⊎_elim}
use mathlib.Core.List.{List}
use Prim.Native.Nat.{ℕ, suc, ◌+◌, ◌*◌, ◌≤◌, ◌<◌}
use native.Mathlib.Nat.{mul-zero, zero-div, zero-mod, div-zero, div-add-mod', mod-lt, le_of_mul-le-mul_right, eq-zero-or-pos}
use native.Mathlib.Omega.{arith}
use lib.Dec.{ltb, leb}
use lib.ListN.{length}
use borrow.Author.Tests.{le-ltb, leb-false}
use Rattle.apportion.specs.Places.{sum_below, one_if, at, sum_of}
use Rattle.apportion.specs.Dividing.{floor_at, remainder_at, left_over, rank, unit_for, unit_at, Divisible}
use Rattle.apportion.specs.Inner.Units.{reach}
use Rattle.apportion.proofs.Sums.{sum-cong, sum-le, sum-add, sum-mul, sum-zero, sum-some, one_at_most, count_most}
use Rattle.apportion.proofs.UnitsByBound.{reach-rank, units-sum}

-- a weight is within the sum of the weights
pub weight-within : (weights : List ℕ) (k : ℕ) → k < length weights → at weights k ≤ sum_of weights
unfolding sum_of
weight-within weights k h = sum-some (length weights) (at weights) k h

module _ (pool : ℕ) (weights : List ℕ) where
  -- G×w is the floor times T plus the remainder
  pub product : (k : ℕ) → floor_at pool weights k * sum_of weights + remainder_at pool weights k ≡ pool * at weights k
  unfolding floor_at remainder_at
  product k = div-add-mod' (pool * at weights k) (sum_of weights)

  pub remainder-less : 0 < sum_of weights → (k : ℕ) → remainder_at pool weights k < sum_of weights
  unfolding remainder_at
  remainder-less some k = mod-lt (pool * at weights k) some

  -- a weight of 0 has no floor and no remainder
  pub floor-none : (k : ℕ) → at weights k ≡ 0 → floor_at pool weights k ≡ 0
  unfolding floor_at
  floor-none k e = rw (e, mul-zero, zero-div)

  pub remainder-none : (k : ℕ) → at weights k ≡ 0 → remainder_at pool weights k ≡ 0
  unfolding remainder_at
  remainder-none k e = rw (e, mul-zero, zero-mod)

  -- the floors times T and the remainders together are G×T
  pool-parts : sum_below (length weights) (floor_at pool weights) * sum_of weights + sum_below (length weights) (remainder_at pool weights) ≡ pool * sum_of weights
  unfolding sum_of
  pool-parts =
      let n = length weights in
      let t = sum_of weights in
      let both = sum-add n (λ k. t * floor_at pool weights k) (remainder_at pool weights) in
      let each = sum-cong n (λ k. t * floor_at pool weights k + remainder_at pool weights k) (λ k. pool * at weights k) (λ k h. omega (arith, product k)) in
      omega (arith, both, each, sum-mul n t (floor_at pool weights), sum-mul n pool (at weights))

  -- the floors are within the pool
  pub floors-within : sum_below (length weights) (floor_at pool weights) ≤ pool
  unfolding floor_at
  floors-within =
      ⊎_elim
      (λ (none : sum_of weights ≡ 0).
      omega (arith, sum-zero (length weights) (floor_at pool weights) (λ k h. rw (none, div-zero))))
      (λ (some : 0 < sum_of weights). le_of_mul-le-mul_right {k = sum_of weights} (omega (arith, pool-parts)) some)
      (eq-zero-or-pos (sum_of weights))

  pub left-and-floors : left_over pool weights + sum_below (length weights) (floor_at pool weights) ≡ pool
  unfolding left_over
  left-and-floors = omega (arith, floors-within)

  -- the units left over times T are the remainders
  left-remainders : left_over pool weights * sum_of weights ≡ sum_below (length weights) (remainder_at pool weights)
  left-remainders = omega (arith, pool-parts, ap (λ (p : ℕ). p * sum_of weights) left-and-floors)

  -- no more units are left over than there are remainders above 0
  pub left-few : 0 < sum_of weights → left_over pool weights ≤ reach (length weights) (remainder_at pool weights) 1
  left-few some =
      le_of_mul-le-mul_right {k = sum_of weights}
      (omega (
        arith,
        left-remainders,
        sum-le n r (λ k. t * one_if (leb 1 (r k))) (λ k h. at_place k (leb 1 (r k)) refl),
        sum-mul n t (λ k. one_if (leb 1 (r k))),
      ))
      some
    where
      n : ℕ
      n = length weights

      t : ℕ
      t = sum_of weights

      r : ℕ → ℕ
      r = remainder_at pool weights

      at_place : (k : ℕ) (b : Bool) → leb 1 (r k) ≡ b → r k ≤ t * one_if (leb 1 (r k))
      at_place k true e = rw e (omega (arith, remainder-less some k))
      at_place k false e = rw e (omega (arith, leb-false 1 (r k) e))

  -- a place gets at most one unit
  pub unit-most : (k : ℕ) → unit_at pool weights k ≤ 1
  unfolding unit_at unit_for
  unit-most k = one_at_most (ltb (rank (length weights) (remainder_at pool weights) k) (left_over pool weights))

  -- a place without remainder gets no unit
  pub unit-none : 0 < sum_of weights → (k : ℕ) → remainder_at pool weights k ≡ 0 → unit_at pool weights k ≡ 0
  unfolding unit_at unit_for
  unit-none some k e =
      let n = length weights in
      let r = remainder_at pool weights in
      rw (le-ltb (rank n r k) (left_over pool weights)
      (omega (arith, left-few some, reach-rank n r k, ap (λ (m : ℕ). reach n r (suc m)) e)))

  -- a pool of 0 leaves no unit over
  pub unit-of-none : pool ≡ 0 → (k : ℕ) → unit_at pool weights k ≡ 0
  unfolding unit_at unit_for
  unit-of-none e k =
      rw (le-ltb (rank (length weights) (remainder_at pool weights) k) (left_over pool weights) (omega (arith, left-and-floors)))

  -- the units that are handed out are those left over
  pub units-left : Divisible pool weights → sum_below (length weights) (unit_at pool weights) ≡ left_over pool weights
  unfolding unit_at
  units-left =
      ⊎_elim
      (λ (some : 0 < sum_of weights).
      units-sum (length weights) (remainder_at pool weights) (left_over pool weights)
      (omega (arith, left-few some, count_most (length weights) (λ k. leb 1 (remainder_at pool weights k)))))
      (λ (none : pool ≡ 0).
      units-sum (length weights) (remainder_at pool weights) (left_over pool weights) (omega (arith, left-and-floors)))
