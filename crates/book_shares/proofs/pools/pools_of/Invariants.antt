-- `book_shares::pools::pools_of` meets its contract: up to an entry the pools are those of the definition, and all of each is
-- within 10^18. Assumes nothing.
use Rattle.book_shares.proofs.PoolSums.{Pooling}
use Rattle.book_shares.proofs.pools.pools_of.Given as goal

abbrev pub invariant-loop-passed : goal.invariant-loop-passed
invariant-loop-passed l = Pooling l.book l.category l.side l.passed l.pools
