-- `report::table::add_next` meets its contract: the search finds the chain's row, or where it is to stand. Assumes nothing.
use native.Mathlib.Omega.{arith}
use mathlib.Core.List.{List}
use mathlib.Core.Path.{sym, ◌∙◌, ap}
use lib.ListN.{length, get_or, set, length-set}
use Rattle.arrayvec.proofs.ArrayVecLemmas.{items-with_items}
use Rattle.std.specs.List.{insert}
use Rattle.std.proofs.Common.{rules}
use Rattle.std.proofs.lemmas.List.Sorted.{answers_always}
use Rattle.report.specs.declared.table.Row.{Row}
use Rattle.report.proofs.TableRows.{none, found-held, found-next, absent-held, absent-next}
use Rattle.report.proofs.table.add_next.Goals as goal

pub walk_on-requires-clause-held_value : goal.walk_on-requires-clause-held_value
walk_on-requires-clause-held_value g c =
    ap (λ (rows : List Row). (get_or rows c.in-Ok.at none).held) (c.deref-in-Ok.ensures.0 ∙ sym c.deref.ensures.0)
    ∙ found-held c.args.book.now c.args.passed (c.record_at-chain.ensures.book, c.requires.passed) (c.deref.ensures.0 ∙ c.requires.table) c.record_at-chain.ensures.value
    c.in-Ok.ensures.bound (c.in-Ok.ensures.position (λ row. row.chain) (answers_always _ _ _ (λ f a r g called. search rules)))

pub walk_on-held-requires-clause-held_value : goal.walk_on-held-requires-clause-held_value
walk_on-held-requires-clause-held_value g c =
    absent-held c.args.book.now c.args.passed (c.record_at-chain.ensures.book, c.requires.passed) (c.deref.ensures.0 ∙ c.requires.table) c.record_at-chain.ensures.value
    c.in-Err.ensures.bound (c.in-Err.ensures.position (λ row. row.chain) (answers_always _ _ _ (λ f a r g called. search rules)))

pub insert-requires : goal.insert-requires
insert-requires g c = (search rules, (omega (arith, c.in-Err.ensures.bound, ap length c.deref.ensures.0), c.requires.room))

pub returns-in-Ok : goal.returns-in-Ok
returns-in-Ok g c =
    items-with_items c.args.rows.now _ (length-set _ _ _ ∙ ap length c.deref_mut.ensures.value)
    ∙ ap (λ (rows : List Row). set rows c.in-Ok.at (record { chain = (get_or rows c.in-Ok.at none).chain; held = c.walk_on.result }))
    (c.deref_mut.ensures.value ∙ sym c.deref.ensures.0)
    ∙ found-next c.args.book.now c.args.passed (c.record_at-chain.ensures.book, c.requires.passed) (c.deref.ensures.0 ∙ c.requires.table) c.record_at-chain.ensures.value
    c.in-Ok.ensures.bound (c.in-Ok.ensures.position (λ row. row.chain) (answers_always _ _ _ (λ f a r g called. search rules)))
    c.walk_on.ensures

pub returns-in-Err : goal.returns-in-Err
returns-in-Err g c =
    c.insert.ensures.items
    ∙ ap (λ (rows : List Row). insert rows c.in-Err.at (record { chain = c.record_at-chain.result.chain; held = c.walk_on-held.result })) (sym c.deref.ensures.0)
    ∙ absent-next c.args.book.now c.args.passed (c.record_at-chain.ensures.book, c.requires.passed) (c.deref.ensures.0 ∙ c.requires.table) c.record_at-chain.ensures.value
    c.in-Err.ensures.bound (c.in-Err.ensures.position (λ row. row.chain) (answers_always _ _ _ (λ f a r g called. search rules)))
    c.walk_on-held.ensures
