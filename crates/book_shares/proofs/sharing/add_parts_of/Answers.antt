-- `book_shares::sharing::add_parts_of` meets its contract: an amount of 0 adds nothing, and else the elements fit the arrays, the
-- division is accepted, and no share passes 64 bits. Assumes nothing.
use mathlib.Core.List.{List}
use mathlib.Core.Path.{◌∙◌, ap}
use Prim.Native.Nat.{ℕ, ◌+◌}
use native.Mathlib.Omega.{arith}
use lib.ListN.{length}
use lib.Seq.{length-take-le}
use Rattle.apportion.specs.Places.{list_below, at}
use Rattle.book_shares.specs.Inner.Members.{by_number}
use Rattle.apportion.proofs.Refusals.{none-refused}
use Rattle.book_shares.proofs.PartsAdded.{amount-accepted, amount-divided, front-weights, nothing-added, part-within}
use Rattle.book_shares.proofs.MemberSums.{listed_few}
use Rattle.book_shares.proofs.sharing.add_parts_of.Goals as goal

pub returns-then-amount-eq0 : goal.returns-then-amount-eq0
returns-then-amount-eq0 c =
    nothing-added c.args.members.book.now c.args.members.places.now (by_number c.args.recipients) c.args.amount c.args.shares.now c.if-amount-eq0.true

pub unwrap-requires : goal.unwrap-requires
unwrap-requires c =
    let few = listed_few c.args.members.book.now c.args.members.category c.args.members.places.now c.args.members.fine c.args.members.are in
    let weighed = front-weights c.args.members.book.now c.args.members.places.now (by_number c.args.recipients) c.weights-weights.result (omega (arith, few)) c.weights-weights.ensures in
    let long = length-take-le _ _ few in
    none-refused c.divide.result
    (c.divide.ensures.value
    ∙ amount-accepted c.args.members.book.now c.args.members.places.now (by_number c.args.recipients) c.args.amount c.requires.divisible_over c.args.members.fine
    c.args.members.category c.args.members.are _ _ weighed long)

pub add_parts-requires-clause-by_index : goal.add_parts-requires-clause-by_index
add_parts-requires-clause-by_index c =
    let few = listed_few c.args.members.book.now c.args.members.category c.args.members.places.now c.args.members.fine c.args.members.are in
    let weighed = front-weights c.args.members.book.now c.args.members.places.now (by_number c.args.recipients) c.weights-weights.result (omega (arith, few)) c.weights-weights.ensures in
    let long = length-take-le _ _ few in
    let parts_are = amount-divided c.args.members.book.now c.args.members.places.now (by_number c.args.recipients) c.args.amount c.requires.divisible_over c.args.members.fine
    c.args.members.category c.args.members.are _ _ _ weighed long c.divide.ensures.shares_after in
    let small = part-within c.args.members.book.now c.args.members.places.now (by_number c.args.recipients) c.args.amount c.requires.divisible_over in
    λ k. rw parts_are (small k)

pub returns : goal.returns
returns c =
    let few = listed_few c.args.members.book.now c.args.members.category c.args.members.places.now c.args.members.fine c.args.members.are in
    let weighed = front-weights c.args.members.book.now c.args.members.places.now (by_number c.args.recipients) c.weights-weights.result (omega (arith, few)) c.weights-weights.ensures in
    let long = length-take-le _ _ few in
    let parts_are = amount-divided c.args.members.book.now c.args.members.places.now (by_number c.args.recipients) c.args.amount c.requires.divisible_over c.args.members.fine
    c.args.members.category c.args.members.are _ _ _ weighed long c.divide.ensures.shares_after in
    let shares = c.args.shares.now in
    c.add_parts.ensures ∙ ap (λ (l : List ℕ). list_below (length shares) (λ k. at shares k + at l k)) parts_are
