-- `report::table::collect` meets its contract: after the first k elements the rows are those of k, and the total what the walk over
-- all of them holds. Assumes nothing.
use mathlib.Core.Path.{◌≡◌}
use Rattle.book.specs.Inner.Chains.{of_chains}
use Rattle.book.specs.Walk.{held_after}
use Rattle.book_words.specs.Measures.{most_chains}
use Rattle.report.specs.Inner.Table.{rows_after}
use Rattle.report.proofs.table.collect.Given as goal

abbrev pub invariant-loop-passed : goal.invariant-loop-passed
invariant-loop-passed g l = (l.total ≡ held_after l.book (of_chains 1 most_chains) l.passed) × (l.rows.items ≡ rows_after l.book l.passed)
