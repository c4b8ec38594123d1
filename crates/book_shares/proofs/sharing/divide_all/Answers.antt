-- `book_shares::sharing::divide_all` meets its contract: the division of A is accepted, and its shares are the two parts.
-- Assumes nothing.
use mathlib.Core.List.{List, [], ◌∷◌}
use mathlib.Core.Path.{ap, refl, sym, ◌∙◌}
use Prim.Native.Nat.{ℕ}
use native.Mathlib.Omega.{arith}
use Rattle.apportion.specs.Places.{at}
use Rattle.apportion.proofs.Refusals.{none-refused}
use Rattle.book_shares.proofs.PartsAdded.{all-accepted, all-divided, all-freight, all-passengers}
use Rattle.book_shares.proofs.MemberSums.{listed_served}
use Rattle.book_shares.proofs.sharing.divide_all.Goals as goal

pub returns-then-mass-eq0 : goal.returns-then-mass-eq0
returns-then-mass-eq0 c =
    all-freight c.args.all _ _ c.requires.1 (sym c.mass-mass.ensures ∙ c.if-mass-eq0.true)

pub returns-then-activity-eq0 : goal.returns-then-activity-eq0
returns-then-activity-eq0 c =
    all-passengers c.args.all _ _ c.requires.1 (sym c.activity-activity.ensures ∙ c.if-activity-eq0.true)

pub unwrap-requires : goal.unwrap-requires
unwrap-requires c =
    let most = listed_served c.args.members.book.now c.args.members.category c.args.members.places.now c.args.members.fine c.args.members.are in
    none-refused c.divide.result
    (c.divide.ensures.value
    ∙ all-accepted c.args.all _ _ (0 ∷ 0 ∷ []) c.activity-activity.ensures c.mass-mass.ensures refl c.requires.0
    c.requires.1 (omega (arith, most)))

pub returns : goal.returns
returns c =
    let most = listed_served c.args.members.book.now c.args.members.category c.args.members.places.now c.args.members.fine c.args.members.are in
    ap (λ (l : List ℕ). record { freight = at l 0; passengers = at l 1 })
    (all-divided c.args.all _ _ _ _ c.activity-activity.ensures c.mass-mass.ensures refl c.requires.0
    c.requires.1 (omega (arith, most)) c.divide.ensures.shares_after)
