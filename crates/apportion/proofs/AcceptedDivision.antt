-- What an accepted division has, and that its parts make the shares of the definition. Assumes nothing.
use mathlib.Core.Path.{◌≡◌, refl, sym, ap, ◌∙◌}
use mathlib.Core.Bool.{false, not, ◌&&◌, and-true}
use mathlib.Core.Logic.{◌⊎◌, inl, inr, ⊎_elim}
use mathlib.Core.List.{List}
use Prim.Native.Nat.{ℕ, suc, ◌+◌, ◌≤◌, ◌<◌, min}
use native.Mathlib.Nat.{eq-zero-or-pos}
use native.Mathlib.Omega.{arith}
use lib.Dec.{ltb, leb, eqb}
use lib.ListN.{length}
use borrow.Author.Tests.{lt-ltb, eq-eqb, ne_eqb, ltb-false, eqb-true, not-false}
use Rattle.std.proofs.lemmas.Bool.{cases_lt}
use Rattle.apportion.specs.Places.{one_if, list_below, at, sum_of}
use Rattle.apportion.specs.Dividing.{floor_at, remainder_at, left_over, before, rank, unit_for, unit_at, share_at}
use Rattle.apportion.specs.Dividing.{divided, most_places, most_pool, most_total, grounds, refusal, shares_after}
use Rattle.apportion.specs.Inner.Products.{Accepted}
use Rattle.apportion.specs.Inner.Units.{count_at_least, with_units}
use Rattle.apportion.proofs.Grounds.{none-holds, or-none, accepted-new, refused-old}
use Rattle.apportion.proofs.Sums.{sum-cong, sum-some, count_most}
use Rattle.apportion.proofs.Lists.{list_length, list_at, list-past, list-cong}
use Rattle.apportion.proofs.UnitsByBound.{reach-zero, reach-none}
use Rattle.apportion.proofs.FloorsAndUnits.{remainder-less, floors-within, left-few}

-- the lengths and numbers of an accepted division
pub record Admitted (pool places slots total : ℕ) : Type 0 where
  pub long : slots ≡ places
  pub few : places ≤ most_places
  pub some : (pool ≡ 0 → ⊥) → 0 < total
  pub pool_within : pool ≤ most_pool
  pub within : total ≤ most_total

module _ (pool places slots total : ℕ) where
  pub admitted : refusal pool places slots total ≡ 0 → Admitted pool places slots total
  unfolding refusal
  admitted e =
      let none = none-holds (grounds pool places slots total) refl e in
      let lengths = or-none (not (eqb slots places)) (ltb most_places places) (none 1) in
      let sizes = or-none (ltb most_pool pool) (ltb most_total total) (none 10) in
      record {
        long = eqb-true slots places (not-false (eqb slots places) lengths.0);
        few = ltb-false most_places places lengths.1;
        some = λ ne. positive ne (none 9) (eq-zero-or-pos total);
        pool_within = ltb-false most_pool pool sizes.0;
        within = ltb-false most_total total sizes.1;
      }
    where
      positive : (pool ≡ 0 → ⊥) → ltb 0 pool && eqb total 0 ≡ false → (total ≡ 0) ⊎ (0 < total) → 0 < total
      positive ne test (inl none) =
          absurd (ne (omega (arith, ltb-false 0 pool (rw (eq-eqb total 0 none, and-true) at test))))
      positive ne test (inr some) = some

-- the capped sum of the weights decides as the sum does
pub refusal-capped : (pool places slots total : ℕ) → refusal pool places slots (min total (suc most_total)) ≡ refusal pool places slots total
unfolding refusal
refusal-capped pool places slots total =
    ⊎_elim
    (λ (l : total < suc most_total).
    let e : min total (suc most_total) ≡ total = omega arith in rw e)
    (λ (large : suc most_total ≤ total).
    let e : min total (suc most_total) ≡ suc most_total = omega arith in
    rw (e, lt-ltb most_total total large, ne_eqb total 0 (omega arith)))
    (cases_lt total (suc most_total))

-- a unit looks at the numbers of the places alone
unit-cong : (n : ℕ) (r s : ℕ → ℕ) (left k : ℕ) → k < n → ((j : ℕ) → j < n → r j ≡ s j) → unit_for n r left k ≡ unit_for n s left k
unfolding unit_for rank before
unit-cong n r s left k h same =
    ap (λ (m : ℕ). one_if (ltb m left))
    (sum-cong n (λ j. one_if (before r j k)) (λ j. one_if (before s j k)) (λ j i. rw (same j i, same k h)))

module _ (pool : ℕ) (weights : List ℕ) where
  abbrev n : ℕ
  n = length weights

  -- the floors and the remainders as the code has them
  abbrev pub floors : List ℕ
  floors = list_below n (floor_at pool weights)

  abbrev pub remainders : List ℕ
  remainders = list_below n (remainder_at pool weights)

  -- the floors with the units that are left over are the shares
  pub floors-and-units : with_units remainders (left_over pool weights) floors ≡ divided pool weights
  unfolding with_units divided share_at unit_at
  floors-and-units =
      rw (list_length n (remainder_at pool weights))
      (list-cong n (λ k. at floors k + unit_for n (at remainders) (left_over pool weights) k) (share_at pool weights)
      (λ k h.
      rw (
        list_at n (floor_at pool weights) k h,
        unit-cong n (at remainders) (remainder_at pool weights) (left_over pool weights) k h (list_at n (remainder_at pool weights)),
      )))

  pub none-reach : 0 < sum_of weights → count_at_least remainders (sum_of weights) ≤ left_over pool weights
  unfolding count_at_least
  none-reach some =
      omega (
        arith,
        reach-none (length remainders) (at remainders) (sum_of weights)
            (λ k h.
            let here : k < n = omega (arith, list_length n (remainder_at pool weights)) in
            omega (arith, list_at n (remainder_at pool weights) k here, remainder-less pool weights some k)),
      )

  pub all-reach : 0 < sum_of weights → left_over pool weights ≤ count_at_least remainders 0
  unfolding count_at_least
  all-reach some =
      omega (
        arith,
        reach-zero (length remainders) (at remainders),
        list_length n (remainder_at pool weights),
        left-few pool weights some,
        count_most n (λ k. leb 1 (remainder_at pool weights k)),
      )

  pub floor-small : pool ≤ most_pool → (k : ℕ) → at floors k ≤ most_pool
  floor-small small k =
      ⊎_elim
      (λ (here : k < n).
      omega (arith, list_at n (floor_at pool weights) k here, sum-some n (floor_at pool weights) k here, floors-within pool weights))
      (λ (past : n ≤ k). omega (arith, list-past n (floor_at pool weights) k past))
      (cases_lt k n)

-- The calls of a division in their order: what each asks follows from what the floors gave.
pub record Floored (pool total : ℕ) (weights : List ℕ) (left : ℕ) (given-floors given-remainders : List ℕ) : Type 0 where
  pub accepted : Accepted pool total weights
  pub left_is : left ≡ left_over pool weights
  pub floors_are : given-floors ≡ floors pool weights
  pub remainders_are : given-remainders ≡ remainders pool weights

module _ {pool total : ℕ} {weights : List ℕ} {left : ℕ} {given-floors given-remainders : List ℕ}
    (f : Floored pool total weights left given-floors given-remainders) where
  some-weight : 0 < sum_of weights
  some-weight = omega (arith, f.accepted.some, f.accepted.total_is)

  pub bound-asked : (0 < total) × (count_at_least given-remainders total ≤ left) × (left ≤ count_at_least given-remainders 0)
  bound-asked = (
    f.accepted.some,
    rw (f.remainders_are, f.accepted.total_is, f.left_is) (none-reach pool weights some-weight),
    rw (f.remainders_are, f.left_is) (all-reach pool weights some-weight),
  )

  pub floors-small : (k : ℕ) → at given-floors k ≤ most_pool
  floors-small k = rw f.floors_are (floor-small pool weights f.accepted.pool_within k)

  pub shares_are : with_units given-remainders left given-floors ≡ divided pool weights
  shares_are = rw (f.remainders_are, f.left_is, f.floors_are) (floors-and-units pool weights)

-- The whole call, by its capped sum and its number.
pub record Reckoned (pool : ℕ) (weights shares : List ℕ) (total number : ℕ) : Type 0 where
  pub total_is : total ≡ min (sum_of weights) (suc most_total)
  pub number_is : number ≡ refusal pool (length weights) (length shares) total

module _ {pool : ℕ} {weights shares : List ℕ} {total number : ℕ} (r : Reckoned pool weights shares total number) where
  pub number-whole : number ≡ refusal pool (length weights) (length shares) (sum_of weights)
  number-whole = r.number_is ∙ rw r.total_is (refusal-capped pool (length weights) (length shares) (sum_of weights))

  pub slots-admitted : number ≡ 0 → length shares ≡ length weights
  slots-admitted e = (admitted pool (length weights) (length shares) total (sym r.number_is ∙ e)).long

  pub pool-accepted : number ≡ 0 → (pool ≡ 0 → ⊥) → Accepted pool total weights
  pool-accepted e some =
      let facts = admitted pool (length weights) (length shares) total (sym r.number_is ∙ e) in
      record {
        some = facts.some some;
        within = facts.within;
        pool_within = facts.pool_within;
        few = facts.few;
        total_is = omega (arith, facts.within, r.total_is);
      }

  pub shares-accepted : number ≡ 0 → divided pool weights ≡ shares_after pool weights shares
  unfolding shares_after
  shares-accepted e = sym (accepted-new _ (divided pool weights) shares (sym number-whole ∙ e))

  pub shares-refused : (number ≡ 0 → ⊥) → shares ≡ shares_after pool weights shares
  unfolding shares_after
  shares-refused ne = sym (refused-old _ (divided pool weights) shares (λ z. ne (number-whole ∙ z)))
