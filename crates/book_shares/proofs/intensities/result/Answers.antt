-- `book_shares::intensities::result` meets its contract: each quotient is that of the definition, capped. Assumes nothing.
use mathlib.Core.List.{List}
use mathlib.Core.Path.{◌≡◌, ap, sym, ◌∙◌}
use Prim.Native.Nat.{ℕ}
use native.Mathlib.Omega.{arith}
use Rattle.book_words.specs.Book.{categories, category_at, category_of}
use Rattle.book_words.specs.declared.records.Category.{Category}
use Rattle.book_shares.specs.declared.pools.Pools.{Pools}
use Rattle.book_shares.specs.Inner.Steps.{scale_tens}
use Rattle.book_words.specs.Inner.Steps.{numbered}
use Rattle.std.proofs.Common.{Some}
use Rattle.book_words.proofs.NumberedRecords.{numbered-some}
use Rattle.book_shares.proofs.SumBounds.{pool-limited}
use Rattle.book_shares.proofs.PartsAdded.{parts-found}
use Rattle.book_shares.proofs.IntensityResults.{all_there, recipients-there, freight-there, passengers-result, freight-result, group-result}
use Rattle.book_shares.proofs.intensities.result.Goals as goal

pub divide_all-parts-requires : goal.divide_all-parts-requires
divide_all-parts-requires c =
    let all = ap (λ (q : Pools). q.all) c.pools_of-pools.ensures in
    let limit = pool-limited c.args.members.book.now c.args.members.fine c.args.members.category 0 c.args.side in
    (omega (arith, all, limit), all_there c.args.members.book.now c.args.members.category c.args.members.places.now c.args.members.are c.args.members.fine c.args.recipients c.requires)

pub per_activity-requires : goal.per_activity-requires
per_activity-requires c = recipients-there c.args.members.book.now c.args.members.category c.args.members.places.now c.args.members.are c.args.recipients c.requires

pub per_activity-requires-in-Freight : goal.per_activity-requires-in-Freight
per_activity-requires-in-Freight c = recipients-there c.args.members.book.now c.args.members.category c.args.members.places.now c.args.members.are c.args.recipients c.requires

pub per_activity-requires-in-Group : goal.per_activity-requires-in-Group
per_activity-requires-in-Group c = freight-there c.args.members.book.now c.args.members.category c.args.members.places.now c.args.members.are c.in-Group.group (rw c.in-Group.is at c.requires)

pub per_activity-requires-in-Group-2 : goal.per_activity-requires-in-Group-2
per_activity-requires-in-Group-2 c = rw c.in-Group.is at (recipients-there c.args.members.book.now c.args.members.category c.args.members.places.now c.args.members.are c.args.recipients c.requires)

pub returns-in-Passengers : goal.returns-in-Passengers
returns-in-Passengers c =
    let parts = parts-found c.args.members.book.now c.args.members.category c.args.side c.args.members.places.now c.args.members.are _ _ c.pools_of-pools.ensures c.divide_all-parts.ensures in
    rw c.in-Passengers.is (passengers-result c.args.members.book.now c.args.members.category c.args.members.places.now c.args.members.are c.args.side parts (rw c.in-Passengers.is at c.per_activity.ensures))

-- the scale is that of the category that is read
tens_are : (ws : List ℕ) (category : ℕ) {here : Category} {tens : ℕ} → numbered (categories ws) (category_at ws) category ≡ Some here → tens ≡ scale_tens here.kind
    → tens ≡ scale_tens (category_of ws category).kind
tens_are ws category read is =
    is ∙ ap (λ (r : Category). scale_tens r.kind) (numbered-some (categories ws) (category_at ws) category read).1

pub returns-in-Freight : goal.returns-in-Freight
returns-in-Freight c =
    let tens = tens_are c.args.members.book.now c.args.members.category (sym c.numbered.ensures.value ∙ c.unwrap-here.ensures) c.scale_tens-tens.ensures in
    let parts = parts-found c.args.members.book.now c.args.members.category c.args.side c.args.members.places.now c.args.members.are _ _ c.pools_of-pools.ensures c.divide_all-parts.ensures in
    rw c.in-Freight.is (freight-result c.args.members.book.now c.args.members.category c.args.members.places.now c.args.members.are c.args.side parts tens (rw c.in-Freight.is at c.per_activity-in-Freight.ensures))

pub returns-in-Group : goal.returns-in-Group
returns-in-Group c =
    let tens = tens_are c.args.members.book.now c.args.members.category (sym c.numbered.ensures.value ∙ c.unwrap-here.ensures) c.scale_tens-tens.ensures in
    let parts = parts-found c.args.members.book.now c.args.members.category c.args.side c.args.members.places.now c.args.members.are _ _ c.pools_of-pools.ensures c.divide_all-parts.ensures in
    rw c.in-Group.is
    (group-result c.args.members.book.now c.args.members.category c.args.members.places.now c.args.members.are c.args.side parts tens c.per_activity-in-Group.ensures c.in-Group.group _ c.pools_of-pools.ensures
    c.group_pool.ensures c.per_activity-in-Group-2.ensures c.add.ensures)
