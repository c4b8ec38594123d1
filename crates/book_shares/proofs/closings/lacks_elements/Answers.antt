-- `book_shares::closings::lacks_elements` meets its contract: the sums and the pools are those of the definition. Assumes
-- nothing.
use mathlib.Core.Path.{ap}
use borrow.Author.Tests.{eq-eqb, ne_eqb}
use Rattle.book_shares.specs.declared.pools.Pools.{Pools}
use Rattle.book_shares.proofs.CloseAccepted.{nothing-tested, pool-tested}
use Rattle.book_shares.proofs.closings.lacks_elements.Goals as goal

pub returns-then-activity-mass-eq0 : goal.returns-then-activity-mass-eq0
returns-then-activity-mass-eq0 c =
    rw (nothing-tested c.args.members.book.now c.args.members.category c.args.members.places.now c.args.members.are _ _ c.activity-activity.ensures c.mass-mass.ensures, eq-eqb _ 0 c.if-activity-mass-eq0.true)

pub returns : goal.returns
returns c =
    let by-operation = c.pools_of-operation.ensures in
    let by-provision = c.pools_of-provision.ensures in
    rw (
      nothing-tested c.args.members.book.now c.args.members.category c.args.members.places.now c.args.members.are _ _ c.activity-activity.ensures c.mass-mass.ensures,
      ne_eqb _ 0 c.if-activity-mass-eq0.false,
      pool-tested c.args.members.book.now c.args.members.category c.args.members.places.now c.args.members.are 1 _ _ _
          (ap (λ (q : Pools). q.chilled) by-operation) (ap (λ (q : Pools). q.chilled) by-provision) c.is_without_elements.ensures,
      pool-tested c.args.members.book.now c.args.members.category c.args.members.places.now c.args.members.are 2 _ _ _
          (ap (λ (q : Pools). q.frozen) by-operation) (ap (λ (q : Pools). q.frozen) by-provision) c.is_without_elements-2.ensures,
    )
