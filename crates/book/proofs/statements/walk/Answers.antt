use mathlib.Core.Path.{◌≡◌, refl, ◌∙◌, ap}
use native.Mathlib.Omega.{arith}
use Rattle.book_words.specs.Book.{elements}
use Rattle.book.specs.Statements.{of_chain}
use Rattle.book.specs.Walk.{held_after, with_total}
use Rattle.book.proofs.StatementWalk.{held-fit, held-statement}
use Rattle.book.proofs.statements.walk.Goals as goal

pub loop-passed-init : goal.loop-passed-init
unfolding held_after
loop-passed-init c =
    refl

pub with_total-requires : goal.with_total-requires
with_total-requires c =
    held-fit _ _ c.count-count.ensures.book c.loop-passed.passed (omega arith) c.loop-passed.invariant

pub returns : goal.returns
returns c =
    let ws = c.args.book.now in
    let last : c.loop-passed.passed ≡ elements ws = omega arith in
    c.with_total.ensures
    ∙ ap with_total (c.loop-passed.invariant ∙ ap (held_after ws (of_chain c.args.chain)) last)
    ∙ held-statement ws c.args.chain
