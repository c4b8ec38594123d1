use mathlib.Core.Path.{◌≡◌}
use Prim.Native.Nat.{◌*◌, ◌%◌, ◌^◌}
use native.Mathlib.Omega.{arith}
use Rattle.apportion.proofs.Powers.{adding-next, adding-done}
use Rattle.apportion.proofs.floors.PowersOfPool.times.Goals as goal

pub loop-rest-preserved : goal.loop-rest-preserved
loop-rest-preserved c =
    let bit = c.ilog2-bit.result in
    let shifted : 1 * 2 ^ bit % 2 ^ 64 ≡ 2 ^ bit = omega arith in
    rw shifted
    (adding-next c.loop-rest.invariant bit c.ilog2-bit.ensures.power_le _ (c.args.self.now.powers.whole bit (omega arith))
    c.plus-sum.ensures.remainder_value c.plus-sum.ensures.remainder_lt_total_2)

pub returns : goal.returns
returns c = adding-done c.loop-rest.invariant (omega arith)
