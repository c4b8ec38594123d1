-- `book_shares::weights::capped_mass` meets its contract: the product where the test holds, capped. Assumes nothing.
use mathlib.Core.Path.{sym, ◌∙◌, ap}
use Prim.Native.Nat.{ℕ, ◌*◌}
use Rattle.book_words.specs.Inner.Steps.{capped}
use Rattle.book_words.proofs.CappedSums.{capped-times}
use Rattle.book_shares.proofs.weights.capped_mass.Goals as goal

pub returns-then-receives : goal.returns-then-receives
returns-then-receives c =
    let e = c.args.e in
    rw (sym c.receives.ensures ∙ c.if-receives.true)
    (c.multiply-then-receives.ensures
    ∙ ap (λ (n : ℕ). capped (n * e.distance)) c.multiply.ensures
    ∙ capped-times (e.amount * c.mass_per_head-mass.result) e.distance
    ∙ ap (λ (n : ℕ). capped (e.amount * n * e.distance)) c.mass_per_head-mass.ensures)
