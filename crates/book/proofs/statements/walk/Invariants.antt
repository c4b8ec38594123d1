-- `book::statements::walk` meets its contract: after the first k elements it holds `held_after` of the chain at k. Assumes nothing.
use mathlib.Core.Path.{◌≡◌}
use Rattle.book.specs.Statements.{of_chain}
use Rattle.book.specs.Walk.{held_after}
use Rattle.book.proofs.statements.walk.Given as goal

abbrev pub invariant-loop-passed : goal.invariant-loop-passed
invariant-loop-passed l = l.held ≡ held_after l.book (of_chain l.chain) l.passed
