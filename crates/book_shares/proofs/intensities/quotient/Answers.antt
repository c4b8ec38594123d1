use mathlib.Core.Path.{◌≡◌, ap, ◌∙◌}
use Prim.Native.Nat.{ℕ, ◌*◌, ◌^◌}
use native.Mathlib.Omega.{arith}
use Rattle.apportion.specs.Fractions.{nearest}
use Rattle.book_words.specs.Inner.Steps.{capped}
use Rattle.book_shares.proofs.Quotients.{shifting-next, shifting-done}
use Rattle.book_shares.proofs.intensities.quotient.Goals as goal

pub loop-preserved : goal.loop-preserved
loop-preserved c =
    shifting-next c.loop.invariant c.requires.0 c.multiply.ensures c.add-whole.ensures

pub returns : goal.returns
returns c =
    let all : c.loop.counter ≡ c.args.tens = omega arith in
    shifting-done c.loop.invariant c.added_by_rounding.ensures.value c.add.ensures
    ∙ ap (λ (n : ℕ). capped (nearest (c.args.amount * 10 ^ n) c.args.total)) all
