-- `apportion::refusing::first_of` meets its contract: the grounds before the place that is reached do not hold. Assumes nothing.
use mathlib.Core.Path.{◌≡◌}
use Prim.Native.Nat.{ℕ}
use lib.ListN.{drop}
use Rattle.apportion.specs.Grounds.{first_of}
use Rattle.apportion.specs.Refusals.{grounds_by}
use Rattle.apportion.proofs.refusing.first_of.Given as goal

abbrev pub invariant-loop-refusal : goal.invariant-loop-refusal
invariant-loop-refusal g l = (number : g.row.E.Denot → ℕ) → first_of (grounds_by number l.grounds) ≡ first_of (grounds_by number (drop l.refusal-index l.grounds))
