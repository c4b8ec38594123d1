-- Amounts that are divided, and their parts added to the shares, as the code does it. Assumes nothing.
use mathlib.Core.Bool.{◌&&◌, true, false}
use mathlib.Core.List.{List, ◌∷◌, []}
use mathlib.Core.Logic.{⊎_elim, inl, inr}
use mathlib.Core.Path.{◌≡◌, refl, ap, ◌∙◌, sym}
use Prim.Native.Nat.{ℕ, ◌≤◌, ◌<◌, ◌+◌}
use native.Mathlib.Omega.{arith}
use lib.Dec.{ltb, eqb}
use lib.ListN.{length, get_or-eq_default, take}
use lib.Seq.{ext_get_or, length-take-le}
use Rattle.std.proofs.lemmas.Bool.{and_right, cases_lt}
use Rattle.std.proofs.lemmas.List.{get_or-take}
use borrow.Author.Tests.{eq-eqb, le-ltb, ne_eqb}
use Rattle.apportion.specs.Dividing.{divided, most_pool, most_total, Divisible, shares_after, refusal}
use Rattle.apportion.specs.Places.{at, sum_of, list_below}
use Rattle.book_words.specs.Soundness.{sound}
use Rattle.book_words.specs.declared.totals.Side.{Side}
use Rattle.book_shares.specs.declared.pools.Pools.{Pools}
use Rattle.book_shares.specs.declared.sharing.Parts.{Parts}
use Rattle.book_shares.specs.Inner.Steps.{DivisibleOver, parts_by, pools_by, with_parts_of}
use Rattle.book_shares.specs.Inner.Members.{members, weights_at, activity_at, mass_at}
use Rattle.book_shares.specs.Shares.{weights, part_at, divided_all, freight_part, passenger_part, closing_share}
use Rattle.book_shares.specs.Sums.{Recipients, Group, Freight, Passengers, pool}
use Rattle.apportion.proofs.Grounds.{accepted-new}
use Rattle.apportion.proofs.Laws.{shares-length, shares_sum, share-of-zero}
use Rattle.apportion.proofs.Lists.{list_at, list-past, list_length}
use Rattle.apportion.proofs.Sums.{sum-some}
use Rattle.book_shares.proofs.MemberSums.{activity-members, mass-members, parts-members, weights-at-length, weights-at-sum, listed_few, listed_activity}
use Rattle.book_shares.proofs.ClosingShares.{parts_of, Divisions, sum-two}

-- a number of a list is at most its sum
pub at-most-sum : (xs : List ℕ) (k : ℕ) → at xs k ≤ sum_of xs
unfolding sum_of
at-most-sum xs k =
    ⊎_elim
    (λ (here : k < length xs). sum-some (length xs) (at xs) k here)
    (λ (past : length xs ≤ k). omega (arith, get_or-eq_default xs 0 past))
    (cases_lt k (length xs))

-- an accepted division writes its shares
pub division-done : (pool : ℕ) (weights old : List ℕ) → refusal pool (length weights) (length old) (sum_of weights) ≡ 0
    → shares_after pool weights old ≡ divided pool weights
unfolding shares_after
division-done pool weights old e =
    accepted-new (refusal pool (length weights) (length old) (sum_of weights)) (divided pool weights) old e

module _ (ws places : List ℕ) (recipients : Recipients) where
  -- the weights at the front of an array, and no part past them
  pub front-weights : (all : List ℕ) → length places ≤ length all → ((k : ℕ) → at all k ≡ at (weights_at ws places recipients) k)
      → take (length places) all ≡ weights_at ws places recipients
  front-weights all few same =
      let long = length-take-le (length places) all few in
      ext_get_or 0 (take (length places) all) (weights_at ws places recipients) (long ∙ sym (weights-at-length ws places recipients))
      (λ k h. get_or-take (length places) all k 0 (omega (arith, long)) ∙ same k)

  pub part-past : (amount k : ℕ) → length places ≤ k → at (divided amount (weights_at ws places recipients)) k ≡ 0
  part-past amount k h =
      let past : length (divided amount (weights_at ws places recipients)) ≤ k =
      omega (arith, shares-length amount (weights_at ws places recipients), weights-at-length ws places recipients) in
      get_or-eq_default (divided amount (weights_at ws places recipients)) 0 past

module _ (ws places : List ℕ) (recipients : Recipients) (amount : ℕ) (d : DivisibleOver ws places recipients amount) where
  -- no part is more than the amount
  pub part-within : (k : ℕ) → at (divided amount (weights_at ws places recipients)) k ≤ most_pool
  part-within k =
      omega (
        arith,
        at-most-sum (divided amount (weights_at ws places recipients)) k,
        shares_sum amount (weights_at ws places recipients) d.divisible,
        d.within,
      )

  -- such a division is accepted
  division-accepted : sound ws ≡ true → (category : ℕ) → places ≡ members ws category
      → refusal amount (length (weights_at ws places recipients)) (length places) (sum_of (weights_at ws places recipients)) ≡ 0
  unfolding refusal
  division-accepted fine category are =
      rw (weights-at-length ws places recipients, weights-at-sum ws places recipients)
      (rw (
        eq-eqb (length places) (length places) refl,
        le-ltb 256 (length places) (listed_few ws category places fine are),
        some d.divisible,
        le-ltb most_pool amount d.within,
        le-ltb most_total (activity_at ws places recipients) (listed_activity ws category places fine are recipients),
      ))
    where
      some : Divisible amount (weights_at ws places recipients) → ltb 0 amount && eqb (activity_at ws places recipients) 0 ≡ false
      some =
          ⊎_elim
          (λ (more : 0 < sum_of (weights_at ws places recipients)).
          and_right (ltb 0 amount) (eqb (activity_at ws places recipients) 0)
          (ne_eqb (activity_at ws places recipients) 0 (λ z. omega (arith, weights-at-sum ws places recipients))))
          (λ (none : amount ≡ 0). rw (le-ltb 0 amount (omega arith)))

  -- with the weights that the code gives
  pub amount-accepted : sound ws ≡ true → (category : ℕ) → places ≡ members ws category → (given old : List ℕ) → given ≡ weights_at ws places recipients → length old ≡ length places
      → refusal amount (length given) (length old) (sum_of given) ≡ 0
  amount-accepted fine category listed given old are long = rw (are, long) (division-accepted fine category listed)

  -- and done as the code does it
  pub amount-divided : sound ws ≡ true → (category : ℕ) → places ≡ members ws category → (given old new : List ℕ) → given ≡ weights_at ws places recipients → length old ≡ length places
      → new ≡ shares_after amount given old
      → new ≡ divided amount (weights_at ws places recipients)
  amount-divided fine category listed given old new are long is =
      is
      ∙ ap (λ (x : List ℕ). shares_after amount x old) are
      ∙ division-done amount (weights_at ws places recipients) old (rw long (division-accepted fine category listed))

-- as many shares as there are places, each at most so much
pub record Held (n most : ℕ) (shares : List ℕ) : Type 0 where
  pub long : length shares ≡ n
  pub few : (k : ℕ) → at shares k ≤ most

-- shares to which the parts of an amount are added
pub held_next : {ws places old new : List ℕ} {recipients : Recipients} {amount n most : ℕ} → Held n most old
    → DivisibleOver ws places recipients amount → new ≡ with_parts_of ws places recipients amount old
    → Held n (most + most_pool) new
held_next {ws} {places} {old} {new} {recipients} {amount} {n} {most} h d is =
    let added : ℕ → ℕ = λ k. at old k + at (divided amount (weights_at ws places recipients)) k in
    record {
      long = ap length is ∙ list_length (length old) added ∙ h.long;
      few = λ k.
          ⊎_elim
          (λ (here : k < length old).
          omega (arith, ap (λ (l : List ℕ). at l k) is ∙ list_at (length old) added k here, h.few k, part-within ws places recipients amount d k))
          (λ (past : length old ≤ k). omega (arith, ap (λ (l : List ℕ). at l k) is ∙ list-past (length old) added k past))
          (cases_lt k (length old));
    }

-- one amount after the other is added
pub added_at : (old : List ℕ) (f : ℕ → ℕ) {new : List ℕ} (k : ℕ) → k < length old → new ≡ list_below (length old) (λ j. at old j + f j) → at new k ≡ at old k + f k
added_at old f k h is = ap (λ (l : List ℕ). at l k) is ∙ list_at (length old) (λ j. at old j + f j) k h

-- A divided by F and P, as the code does it: it is accepted
pub all-accepted : (a f p : ℕ) {g q : ℕ} (old : List ℕ) → g ≡ f → q ≡ p → length old ≡ 2 → a ≤ most_pool → 0 < f + p → f + p ≤ most_total
    → refusal a 2 (length old) (sum_of (g ∷ q ∷ [])) ≡ 0
unfolding refusal
all-accepted a f p old is_f is-p two within served few =
    let total = sum-two (f ∷ p ∷ []) refl in
    let some : eqb (sum_of (f ∷ p ∷ [])) 0 ≡ false = ne_eqb (sum_of (f ∷ p ∷ [])) 0 (λ z. omega (arith, total)) in
    rw (is_f, is-p)
    (rw (
      two,
      some,
      le-ltb most_pool a within,
      le-ltb most_total (sum_of (f ∷ p ∷ [])) (omega (arith, total)),
      and_right (ltb 0 a) false refl,
    ))

-- and gives these shares
pub all-divided : (a f p : ℕ) {g q : ℕ} (old new : List ℕ) → g ≡ f → q ≡ p → length old ≡ 2 → a ≤ most_pool → 0 < f + p → f + p ≤ most_total
    → new ≡ shares_after a (g ∷ q ∷ []) old
    → new ≡ divided a (f ∷ p ∷ [])
all-divided a f p {g} {q} old new is_f is-p two within served few is =
    is ∙ division-done a (g ∷ q ∷ []) old (all-accepted a f p old is_f is-p two within served few) ∙ rw (is_f, is-p)

-- where one of the weights is 0, the other gets all of A
module _ (a f p : ℕ) (served : 0 < f + p) where
  parts_whole : (at (divided a (f ∷ p ∷ [])) 0 + at (divided a (f ∷ p ∷ [])) 1 ≡ a) × (0 < sum_of (f ∷ p ∷ []))
  parts_whole =
      let some : 0 < sum_of (f ∷ p ∷ []) = rw (sum-two (f ∷ p ∷ []) refl) served in
      (sym (sum-two (divided a (f ∷ p ∷ [])) (shares-length a (f ∷ p ∷ []))) ∙ shares_sum a (f ∷ p ∷ []) (inl some), some)

  pub all-freight : p ≡ 0 → record { freight = a; passengers = 0 } ≡ parts_by a f p
  all-freight none =
      let nothing = share-of-zero a (f ∷ p ∷ []) (inl parts_whole.1) 1 none in
      let all : at (divided a (f ∷ p ∷ [])) 0 ≡ a = omega (arith, parts_whole.0) in
      rw (all, nothing)

  pub all-passengers : f ≡ 0 → record { freight = 0; passengers = a } ≡ parts_by a f p
  all-passengers none =
      let nothing = share-of-zero a (f ∷ p ∷ []) (inl parts_whole.1) 0 none in
      let all : at (divided a (f ∷ p ∷ [])) 1 ≡ a = omega (arith, parts_whole.0) in
      rw (all, nothing)

-- an amount of 0 adds nothing
pub nothing-added : (ws places : List ℕ) (recipients : Recipients) (amount : ℕ) (shares : List ℕ) → amount ≡ 0
    → shares ≡ with_parts_of ws places recipients amount shares
nothing-added ws places recipients amount shares none =
    let weights = weights_at ws places recipients in
    let f : ℕ → ℕ = λ k. at shares k + at (divided amount weights) k in
    ext_get_or 0 shares (list_below (length shares) f) (sym (list_length (length shares) f))
    (λ k h. omega (arith, list_at (length shares) f k h, at-most-sum (divided amount weights) k, shares_sum amount weights (inr none)))

-- the two parts of A, by the sums over the category's elements
module _ (ws : List ℕ) (category : ℕ) (side : Side) (places : List ℕ) (are : places ≡ members ws category) where
  pub parts-found : (q : Pools) (p : Parts) → q ≡ pools_by ws category side → p ≡ parts_by q.all (activity_at ws places Freight) (mass_at ws places)
      → p ≡ parts_of ws category side
  unfolding divided_all
  parts-found q p is-q is = is ∙ rw (is-q, are, activity-members ws category Freight, mass-members ws category)

  -- what an element gets of an amount
  part-found : (recipients : Recipients) (amount : ℕ) → Divisible amount (weights ws category recipients) → (k : ℕ) → k < length places
      → at (divided amount (weights_at ws places recipients)) k ≡ part_at ws category recipients amount (at places k)
  part-found recipients amount divisible k h =
      rw are
      (ap (λ (l : List ℕ). at l k) (parts-members ws category recipients amount divisible)
      ∙ list_at (length (members ws category)) (λ i. part_at ws category recipients amount (at (members ws category) i)) k (rw are at h))

  -- the parts that were added are the shares
  pub shares-added : Divisions ws category side → (p : Parts) (q : Pools)
      → p ≡ parts_of ws category side → q ≡ pools_by ws category side → (k : ℕ) → k < length places
      → at (divided p.freight (weights_at ws places Freight)) k
      + at (divided p.passengers (weights_at ws places Passengers)) k
      + at (divided q.chilled (weights_at ws places (Group 1))) k
      + at (divided q.frozen (weights_at ws places (Group 2))) k
      ≡ closing_share ws category side (at places k)
  unfolding closing_share
  shares-added h p q is-p is-q k i =
      rw (is-p, is-q)
      (rw (
        part-found Freight (freight_part ws category side) h.freight-divisible k i,
        part-found Passengers (passenger_part ws category side) h.passengers-divisible k i,
        part-found (Group 1) (pool ws category 1 side) h.chilled-divisible k i,
        part-found (Group 2) (pool ws category 2 side) h.frozen-divisible k i,
      ))
