use native.Mathlib.Omega.{arith}
use mathlib.Core.Path.{◌≡◌}
use Rattle.std.proofs.lemmas.List.{set-get_or}
use Rattle.apportion.proofs.Powers.{making-done}
use Rattle.apportion.proofs.floors.set_powers.Goals as goal

pub returns-after-loop-place : goal.returns-after-loop-place
returns-after-loop-place c =
    let end : c.loop-place.place-index ≡ 60 = omega arith in
    making-done c.loop-place.invariant (omega (arith, rw end at c.loop-place.invariant.step_is))

pub returns-then-step-total : goal.returns-then-step-total
returns-then-step-total c = rw (set-get_or c.loop-place.by_bit c.loop-place.place-index _) (making-done c.loop-place.invariant c.if-step-total.true)
