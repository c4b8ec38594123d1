-- `book_shares::sharing::set_shares` meets its contract: the four amounts can be divided, and their parts are the shares
-- of the definition. Assumes nothing.
use mathlib.Core.List.{List}
use mathlib.Core.Logic.{⊎_elim}
use mathlib.Core.Path.{◌≡◌, ap, sym, ◌∙◌}
use Prim.Native.Nat.{ℕ, ◌*◌, ◌+◌, ◌<◌, ◌≤◌}
use native.Mathlib.Omega.{arith}
use lib.ListN.{length}
use borrow.Author.Tests.{lt-ltb, le-ltb}
use Rattle.std.proofs.lemmas.Bool.{cases_lt}
use Rattle.apportion.specs.Dividing.{divided, most_pool}
use Rattle.apportion.specs.Places.{at}
use Rattle.book_words.specs.declared.totals.Side.{Side}
use Rattle.book_shares.specs.declared.pools.Pools.{Pools}
use Rattle.book_shares.specs.declared.sharing.Parts.{Parts}
use Rattle.book_shares.specs.Closing.{close_refusal}
use Rattle.book_shares.specs.Inner.Steps.{DivisibleOver}
use Rattle.book_shares.specs.Inner.Steps.{listed_share, parts_by, pools_by, with_parts_of}
use Rattle.book_shares.specs.Inner.Members.{members, activity_at, mass_at, weights_at}
use Rattle.book_shares.proofs.ClosingShares.{parts_of}
use Rattle.book_shares.proofs.SumBounds.{pool-limited}
use Rattle.book_shares.proofs.CloseAccepted.{AcceptedClosing, accepted-closing, divisions, parts-divisible, pools-divisible, served-at}
use Rattle.book_shares.proofs.PartsAdded.{Held, held_next, added_at, parts-found, part-past, shares-added}
use Rattle.apportion.proofs.Lists.{list-past}
use Rattle.book_shares.proofs.MemberSums.{listed_few}
use Rattle.book_shares.proofs.sharing.set_shares.Goals as goal
use Rattle.book_shares.specs.Sums.{Recipients, Group, Freight, Passengers}

-- a closing for which no ground holds: its amounts can be divided over the places of the category's elements
module _ (ws : List ℕ) (category : ℕ) (side : Side) (places : List ℕ) (are : places ≡ members ws category) (none : close_refusal ws category ≡ 0)
    {q : Pools} (is-q : q ≡ pools_by ws category side) where
  accepted : AcceptedClosing ws category
  accepted = accepted-closing ws category none

  all_within : (q.all ≤ most_pool) × (0 < activity_at ws places Freight + mass_at ws places)
  all_within =
      (rw is-q (pool-limited ws accepted.fine category 0 side), served-at ws category places are accepted.served)

  pools_ready : DivisibleOver ws places (Group 1) q.chilled × DivisibleOver ws places (Group 2) q.frozen
  pools_ready = pools-divisible ws category side places are accepted q is-q

  module _ {p : Parts} (is-p : p ≡ parts_by q.all (activity_at ws places Freight) (mass_at ws places)) where
    parts_are : p ≡ parts_of ws category side
    parts_are = parts-found ws category side places are q p is-q is-p

    parts_ready : DivisibleOver ws places Freight p.freight × DivisibleOver ws places Passengers p.passengers
    parts_ready = parts-divisible ws category side places are accepted p parts_are

    -- how much the shares hold after the first division, the second and the third, where they were zeros before
    module _ (none_yet : List ℕ) (long : length none_yet ≡ 256) (zeros : (k : ℕ) → at none_yet k ≡ 0)
        {one : List ℕ} (first : one ≡ with_parts_of ws places Freight p.freight none_yet) where
      held_1 : Held 256 most_pool one
      held_1 =
          let before : Held 256 0 none_yet = record { long = long; few = λ k. omega (arith, zeros k) } in
          held_next before parts_ready.0 first

      module _ {two : List ℕ} (second : two ≡ with_parts_of ws places Passengers p.passengers one) where
        held_2 : Held 256 (2 * most_pool) two
        held_2 = held_next held_1 parts_ready.1 second

        module _ {three : List ℕ} (third : three ≡ with_parts_of ws places (Group 1) q.chilled two) where
          held_3 : Held 256 (3 * most_pool) three
          held_3 = held_next held_2 pools_ready.0 third

          module _ {four : List ℕ} (fourth : four ≡ with_parts_of ws places (Group 2) q.frozen three) where
            -- what each gets of an amount; after the fourth division each is the sum of four
            abbrev part : Recipients → ℕ → ℕ → ℕ
            part r amount j = at (divided amount (weights_at ws places r)) j

            parts_summed : (k : ℕ) → k < 256
                → at four k ≡ part Freight p.freight k + part Passengers p.passengers k + part (Group 1) q.chilled k + part (Group 2) q.frozen k
            parts_summed k here =
                omega (
                  arith,
                  zeros k,
                  added_at none_yet (part Freight p.freight) k (omega (arith, long, here)) first,
                  added_at one (part Passengers p.passengers) k (omega (arith, held_1.long, here)) second,
                  added_at two (part (Group 1) q.chilled) k (omega (arith, held_2.long, here)) third,
                  added_at three (part (Group 2) q.frozen) k (omega (arith, held_3.long, here)) fourth,
                )

            all_added : (k : ℕ) → at four k ≡ listed_share ws category places side k
            all_added k =
                ⊎_elim
                (λ (here : k < length places).
                let few = listed_few ws category places accepted.fine are in
                parts_summed k (omega (arith, few, here))
                ∙ shares-added ws category side places are (divisions ws category side accepted) p q parts_are is-q k here
                ∙ sym (rw (lt-ltb k (length places) here)))
                (λ (past : length places ≤ k). rw (le-ltb k (length places) past) (⊎_elim (within past) beyond (cases_lt k 256)))
                (cases_lt k (length places))
              where
                within : length places ≤ k → k < 256 → at four k ≡ 0
                within past here =
                    omega (
                      arith,
                      parts_summed k here,
                      part-past ws places Freight p.freight k past,
                      part-past ws places Passengers p.passengers k past,
                      part-past ws places (Group 1) q.chilled k past,
                      part-past ws places (Group 2) q.frozen k past,
                    )

                beyond : 256 ≤ k → at four k ≡ 0
                beyond past = ap (λ (l : List ℕ). at l k) fourth ∙ list-past (length three) _ k (omega (arith, held_3.long, past))

pub divide_all-parts-requires : goal.divide_all-parts-requires
divide_all-parts-requires c =
    all_within c.args.members.book.now c.args.members.category c.args.side c.args.members.places.now c.args.members.are c.requires.none c.pools_of-pools.ensures

pub add_parts_of-requires-clause-divisible_over : goal.add_parts_of-requires-clause-divisible_over
add_parts_of-requires-clause-divisible_over c =
    (parts_ready c.args.members.book.now c.args.members.category c.args.side c.args.members.places.now c.args.members.are c.requires.none c.pools_of-pools.ensures c.divide_all-parts.ensures).0

pub add_parts_of-requires-clause-by_index : goal.add_parts_of-requires-clause-by_index
add_parts_of-requires-clause-by_index c = λ k. omega (arith, c.requires.zeros k)

pub add_parts_of-requires-2-clause-divisible_over : goal.add_parts_of-requires-2-clause-divisible_over
add_parts_of-requires-2-clause-divisible_over c =
    (parts_ready c.args.members.book.now c.args.members.category c.args.side c.args.members.places.now c.args.members.are c.requires.none c.pools_of-pools.ensures c.divide_all-parts.ensures).1

pub add_parts_of-requires-2-clause-by_index : goal.add_parts_of-requires-2-clause-by_index
add_parts_of-requires-2-clause-by_index c =
    let held = held_1 c.args.members.book.now c.args.members.category c.args.side c.args.members.places.now c.args.members.are c.requires.none c.pools_of-pools.ensures c.divide_all-parts.ensures c.args.shares.now (omega (arith, c.add_parts_of.array_long)) c.requires.zeros c.add_parts_of.ensures in
    λ k. omega (arith, held.few k)

pub add_parts_of-requires-3-clause-divisible_over : goal.add_parts_of-requires-3-clause-divisible_over
add_parts_of-requires-3-clause-divisible_over c =
    (pools_ready c.args.members.book.now c.args.members.category c.args.side c.args.members.places.now c.args.members.are c.requires.none c.pools_of-pools.ensures).0

pub add_parts_of-requires-3-clause-by_index : goal.add_parts_of-requires-3-clause-by_index
add_parts_of-requires-3-clause-by_index c =
    let held = held_2 c.args.members.book.now c.args.members.category c.args.side c.args.members.places.now c.args.members.are c.requires.none c.pools_of-pools.ensures c.divide_all-parts.ensures c.args.shares.now (omega (arith, c.add_parts_of.array_long)) c.requires.zeros c.add_parts_of.ensures c.add_parts_of-2.ensures in
    λ k. omega (arith, held.few k)

pub add_parts_of-requires-4-clause-divisible_over : goal.add_parts_of-requires-4-clause-divisible_over
add_parts_of-requires-4-clause-divisible_over c =
    (pools_ready c.args.members.book.now c.args.members.category c.args.side c.args.members.places.now c.args.members.are c.requires.none c.pools_of-pools.ensures).1

pub add_parts_of-requires-4-clause-by_index : goal.add_parts_of-requires-4-clause-by_index
add_parts_of-requires-4-clause-by_index c =
    let held = held_3 c.args.members.book.now c.args.members.category c.args.side c.args.members.places.now c.args.members.are c.requires.none c.pools_of-pools.ensures c.divide_all-parts.ensures c.args.shares.now (omega (arith, c.add_parts_of.array_long)) c.requires.zeros c.add_parts_of.ensures c.add_parts_of-2.ensures c.add_parts_of-3.ensures in
    λ k. omega (arith, held.few k)

pub returns : goal.returns
returns c =
    all_added c.args.members.book.now c.args.members.category c.args.side c.args.members.places.now c.args.members.are c.requires.none c.pools_of-pools.ensures c.divide_all-parts.ensures
    c.args.shares.now (omega (arith, c.add_parts_of.array_long)) c.requires.zeros c.add_parts_of.ensures c.add_parts_of-2.ensures c.add_parts_of-3.ensures c.add_parts_of-4.ensures
