use native.Mathlib.Omega.{arith}
use mathlib.Core.Path.{◌≡◌, refl, sym, ◌∙◌, ap}
use lib.ListN.{length}
use Rattle.std.proofs.Common.{rules}
use Rattle.book.specs.Inner.Chains.{of_chains}
use Rattle.book.specs.Walk.{held_after, with_total}
use Rattle.book.proofs.Laws.{held-fit, held-total}
use Rattle.book_words.specs.Book.{elements}
use Rattle.book_words.specs.Measures.{most_chains}
use Rattle.report.proofs.TableRows.{rows-start, rows-most}
use Rattle.report.proofs.table.collect.Goals as goal

pub loop-passed-init : goal.loop-passed-init
unfolding held_after
loop-passed-init g c = (refl, c.requires.empty ∙ sym (rows-start c.args.book.now))

pub add_next-requires : goal.add_next-requires
add_next-requires g c = (
  search rules,
  (
    omega arith,
    (
      omega (
        arith,
        ap length c.loop-passed.invariant.1,
        rows-most c.args.book.now c.count-passed-end.ensures.book c.loop-passed.passed (omega arith),
        c.requires.room,
      ),
      c.loop-passed.invariant.1,
    ),
  ),
)

pub with_total-requires : goal.with_total-requires
with_total-requires g c = held-fit _ _ c.count-passed-end.ensures.book c.loop-passed.passed (omega arith) c.loop-passed.invariant.0

pub returns-clause-value : goal.returns-clause-value
returns-clause-value g c =
    let ws = c.args.book.now in
    let last : c.loop-passed.passed ≡ elements ws = omega arith in
    c.with_total.ensures
    ∙ ap with_total (c.loop-passed.invariant.0 ∙ ap (held_after ws (of_chains 1 most_chains)) last)
    ∙ held-total ws c.count-passed-end.ensures.book
