-- `book_shares::sharing::add_parts` meets its contract: up to a place each share has its part. Assumes nothing.
use Prim.Native.Nat.{◌+◌}
use Rattle.apportion.specs.Places.{at}
use Rattle.book_shares.proofs.FilledFront.{Filling}
use Rattle.book_shares.proofs.sharing.add_parts.Given as goal

abbrev pub invariant-loop-place : goal.invariant-loop-place
invariant-loop-place l = Filling (λ k. at l.initial.shares k + at l.parts k) l.initial.shares l.place l.shares
