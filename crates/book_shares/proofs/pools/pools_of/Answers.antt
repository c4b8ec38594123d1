use mathlib.Core.Path.{◌∙◌, ap}
use native.Mathlib.Omega.{arith}
use Rattle.book_shares.specs.Inner.Steps.{pools_with}
use Rattle.book_shares.proofs.PoolSums.{pooling-next, pooling-done}
use Rattle.book_shares.proofs.pools.pools_of.Goals as goal

pub loop-passed-preserved : goal.loop-passed-preserved
loop-passed-preserved c =
    pooling-next c.args.book.now c.args.category c.args.side _ c.loop-passed.invariant (omega arith)
    (c.pools_with-pools.ensures ∙ ap (pools_with c.loop-passed.pools c.args.category c.args.side) c.record_at-e.ensures.value)

pub returns : goal.returns
returns c =
    pooling-done c.args.book.now c.args.category c.args.side c.count-count.ensures.book c.loop-passed.invariant (omega arith)
