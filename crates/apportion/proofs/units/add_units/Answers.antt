use mathlib.Core.Path.{ap}
use Prim.Native.Nat.{ℕ, ◌-◌}
use native.Mathlib.Omega.{arith}
use Rattle.apportion.proofs.Sums.{byte-one, byte_most}
use Rattle.apportion.proofs.UnitLoop.{handing-few, handing-next, handing-done}
use Rattle.apportion.proofs.units.add_units.Goals as goal

pub overflow_add-earlier : goal.overflow_add-earlier
overflow_add-earlier c = omega (arith, handing-few c.loop-k.invariant, byte_most)

pub loop-k-preserved : goal.loop-k-preserved
loop-k-preserved c =
    handing-next c.loop-k.invariant c.loop-k-test.true (ap (λ (n : ℕ). c.args.left - n) c.count_at_least.ensures)
    c.unit_by.ensures.value (omega (arith, byte-one))

pub returns : goal.returns
returns c = handing-done c.loop-k.invariant c.loop-k-test.false
