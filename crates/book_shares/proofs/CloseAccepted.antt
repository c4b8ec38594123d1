-- What holds where a closing is accepted: none of its grounds does, and every pool can be divided. Assumes nothing.
use mathlib.Core.Bool.{true, false, ◌||◌, ◌&&◌, and-true, Bool}
use mathlib.Core.List.{List, ◌∷◌, []}
use mathlib.Core.Logic.{⊎_elim, inl, inr, ◌⊎◌}
use mathlib.Core.Path.{◌≡◌, refl, ◌∙◌}
use Prim.Native.Nat.{ℕ, ◌+◌, ◌<◌, ◌≤◌}
use native.Mathlib.Nat.{eq-zero-or-pos}
use native.Mathlib.Omega.{arith}
use lib.Dec.{ltb, eqb}
use borrow.Author.Tests.{not-false, eq-eqb, ltb-false}
use Rattle.apportion.specs.Dividing.{Divisible, most_pool}
use Rattle.apportion.specs.Places.{at}
use Rattle.book_words.specs.Book.{categories, is_closed}
use Rattle.book_words.specs.Measures.{between}
use Rattle.book_words.specs.Soundness.{sound}
use Rattle.book_words.specs.declared.totals.Side.{Side}
use Rattle.book_words.specs.declared.totals.Side.TheVariants.{Operation as operation, Provision as provision}
use Rattle.book_shares.specs.declared.pools.Pools.{Pools}
use Rattle.book_shares.specs.declared.sharing.Parts.{Parts}
use Rattle.book_shares.specs.Closing.{pool_without_elements, close_grounds, close_refusal, nothing_to_divide_by}
use Rattle.book_shares.specs.Inner.Steps.{DivisibleOver, pools_by}
use Rattle.book_shares.specs.Inner.Members.{members, activity_at, mass_at}
use Rattle.book_shares.specs.Shares.{weights, freight_part, divided_all, passenger_part}
use Rattle.book_shares.specs.Sums.{Recipients, Group, Freight, Passengers, activity_among, passengers_by_mass, pool}
use Rattle.apportion.proofs.Grounds.{none-holds, or-none}
use Rattle.apportion.proofs.Laws.{share-of-zero}
use Rattle.book_words.proofs.Ranges.{above_zero}
use Rattle.book_shares.proofs.SumBounds.{mass-most, pool-limited}
use Rattle.book_shares.proofs.MemberSums.{activity-members, mass-members, divisible-members}
use Rattle.book_shares.proofs.ClosingShares.{ToDivideBy, parts_of, weights-sum, sum-two, Divisions, parts_add}

module _ (ws : List ℕ) (category : ℕ) where
  pub record AcceptedClosing : Type 0 where
    pub fine : sound ws ≡ true
    pub numbered : between 1 (categories ws) category ≡ true
    pub unclosed : is_closed ws category ≡ false
    pub served : ToDivideBy ws category
    pub chilled-served : pool_without_elements ws category 1 ≡ false
    pub frozen-served : pool_without_elements ws category 2 ≡ false

  pub accepted-closing : close_refusal ws category ≡ 0 → AcceptedClosing
  unfolding close_refusal
  accepted-closing e =
      let nothing = nothing_to_divide_by ws category in
      let chilled = pool_without_elements ws category 1 in
      let frozen = pool_without_elements ws category 2 in
      let none = none-holds (close_grounds ws category) refl e in
      let a = or-none (nothing || chilled) frozen (none 9) in
      let b = or-none nothing chilled a.0 in
      record {
        fine = not-false (sound ws) (none 1);
        numbered = not-false (between 1 (categories ws) category) (none 2);
        unclosed = none 4;
        served = above_zero (activity_among ws category Freight + passengers_by_mass ws category) b.0;
        chilled-served = b.1;
        frozen-served = a.1;
      }

  -- elements with an activity can take any amount
  taken-up : (recipients : Recipients) (amount : ℕ) → 0 < activity_among ws category recipients → Divisible amount (weights ws category recipients)
  taken-up recipients amount some = inl (omega (arith, weights-sum ws category recipients))

  -- A can be divided by F and P
  pub all-divisible : ToDivideBy ws category → (amount : ℕ) → Divisible amount (activity_among ws category Freight ∷ passengers_by_mass ws category ∷ [])
  all-divisible served amount = inl (omega (arith, sum-two (activity_among ws category Freight ∷ passengers_by_mass ws category ∷ []) refl))

  module _ (side : Side) where
    -- the part of A at place k (0 freight, 1 passengers) goes to these elements: where there are none, its weight is 0
    part-divisible : ToDivideBy ws category → (k : ℕ) (recipients : Recipients)
        → (at (activity_among ws category Freight ∷ passengers_by_mass ws category ∷ []) k ≡ 0) ⊎ (0 < activity_among ws category recipients)
        → Divisible (at (divided_all ws category side) k) (weights ws category recipients)
    unfolding divided_all
    part-divisible served k recipients =
        ⊎_elim
        (λ (none : at (activity_among ws category Freight ∷ passengers_by_mass ws category ∷ []) k ≡ 0).
        inr (share-of-zero (pool ws category 0 side) _ (all-divisible served (pool ws category 0 side)) k none))
        (λ (some : 0 < activity_among ws category recipients). taken-up recipients (at (divided_all ws category side) k) some)

    -- there are passengers with an activity where P is above 0
    some-passengers : sound ws ≡ true → (passengers_by_mass ws category ≡ 0) ⊎ (0 < activity_among ws category Passengers)
    some-passengers fine =
        ⊎_elim
        (λ (none : passengers_by_mass ws category ≡ 0). inl none)
        (λ (some : 0 < passengers_by_mass ws category). inr (omega (arith, mass-most ws fine category)))
        (eq-zero-or-pos (passengers_by_mass ws category))

    -- a group without elements has nothing to divide
    group-divisible : (group : ℕ) → pool_without_elements ws category group ≡ false → Divisible (pool ws category group side) (weights ws category (Group group))
    group-divisible group h =
        ⊎_elim
        (λ (none : activity_among ws category (Group group) ≡ 0).
        inr (nothing side (rw (eq-eqb (activity_among ws category (Group group)) 0 none, and-true) at h)))
        (λ (some : 0 < activity_among ws category (Group group)). taken-up (Group group) (pool ws category group side) some)
        (eq-zero-or-pos (activity_among ws category (Group group)))
      where
        nothing : (s : Side) → ltb 0 (pool ws category group operation) || ltb 0 (pool ws category group provision) ≡ false
            → pool ws category group s ≡ 0
        nothing s e =
            let none = or-none (ltb 0 (pool ws category group operation)) (ltb 0 (pool ws category group provision)) e in
            go s none.0 none.1
          where
            go : (s : Side) → ltb 0 (pool ws category group operation) ≡ false → ltb 0 (pool ws category group provision) ≡ false
                → pool ws category group s ≡ 0
            go operation a b = omega (arith, ltb-false 0 (pool ws category group operation) a)
            go provision a b = omega (arith, ltb-false 0 (pool ws category group provision) b)

    pub divisions : AcceptedClosing → Divisions ws category side
    divisions k =
        record {
          served = k.served;
          freight-divisible = part-divisible k.served 0 Freight (eq-zero-or-pos (activity_among ws category Freight));
          passengers-divisible = part-divisible k.served 1 Passengers (some-passengers k.fine);
          chilled-divisible = group-divisible 1 k.chilled-served;
          frozen-divisible = group-divisible 2 k.frozen-served;
        }

    -- the four amounts that are divided over the category's elements by their places
    module _ (places : List ℕ) (are : places ≡ members ws category) (k : AcceptedClosing) where
      divisible-over : (recipients : Recipients) (amount : ℕ) → Divisible amount (weights ws category recipients) → amount ≤ most_pool
          → DivisibleOver ws places recipients amount
      divisible-over recipients amount divisible within =
          rw are (record { divisible = divisible-members ws category recipients amount divisible; within = within })

      pub parts-divisible : (p : Parts) → p ≡ parts_of ws category side
          → DivisibleOver ws places Freight p.freight × DivisibleOver ws places Passengers p.passengers
      parts-divisible p is =
          let all = parts_add ws category side k.served in
          let most = pool-limited ws k.fine category 0 side in
          rw is (
            divisible-over Freight (freight_part ws category side) (divisions k).freight-divisible (omega (arith, all, most)),
            divisible-over Passengers (passenger_part ws category side) (divisions k).passengers-divisible (omega (arith, all, most)),
          )

      pub pools-divisible : (q : Pools) → q ≡ pools_by ws category side
          → DivisibleOver ws places (Group 1) q.chilled × DivisibleOver ws places (Group 2) q.frozen
      pools-divisible q is =
          rw is (
            divisible-over (Group 1) (pool ws category 1 side) (divisions k).chilled-divisible (pool-limited ws k.fine category 1 side),
            divisible-over (Group 2) (pool ws category 2 side) (divisions k).frozen-divisible (pool-limited ws k.fine category 2 side),
          )

  module _ (places : List ℕ) (are : places ≡ members ws category) where
    pub served-at : ToDivideBy ws category → 0 < activity_at ws places Freight + mass_at ws places
    served-at served = rw (are, activity-members ws category Freight, mass-members ws category) served

    -- the parts of ground 9, as the code tests them
    pub nothing-tested : (f p : ℕ) → f ≡ activity_at ws places Freight → p ≡ mass_at ws places → nothing_to_divide_by ws category ≡ eqb (f + p) 0
    nothing-tested f p is_f is-p = rw (is_f, is-p, are, activity-members ws category Freight, mass-members ws category)

    pub pool-tested : (group a b : ℕ) (r : Bool) → a ≡ pool ws category group operation → b ≡ pool ws category group provision
        → r ≡ (ltb 0 a || ltb 0 b) && eqb (activity_at ws places (Group group)) 0
        → r ≡ pool_without_elements ws category group
    pool-tested group a b r is-a is_b is = is ∙ rw (is-a, is_b, are, activity-members ws category (Group group))
