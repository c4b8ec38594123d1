-- `apportion::nearest::added_by_rounding` meets its contract. Assumes nothing.
use mathlib.Core.Path.{◌≡◌, ◌∙◌, ap, sym}
use Prim.Native.Nat.{ℕ, ◌+◌, ◌*◌, ◌<◌}
use native.Mathlib.Omega.{arith}
use Rattle.apportion.specs.Fractions.{nearest, added_by_rounding}
use Rattle.apportion.proofs.Rounding.{below_half, above_half, at-half, rounded}
use Rattle.apportion.proofs.nearest.added_by_rounding.Goals as goal

-- what rounding adds makes the quotient the number rounded
rounds : (q r d : ℕ) {added : ℕ} → added_by_rounding q r d ≡ added
    → record { value : added ≡ added_by_rounding q r d; result_value : r < d → q + added ≡ nearest (q * d + r) d }
rounds q r d e = record { value = sym e; result_value = λ h. ap (λ (n : ℕ). q + n) (sym e) ∙ rounded q r d h }

pub returns-then-remainder-divisor : goal.returns-then-remainder-divisor
returns-then-remainder-divisor c =
    let a = c.args in
    rounds a.quotient a.remainder a.divisor (below_half a.quotient a.remainder a.divisor (omega arith))

pub returns-then-remainder-divisor-2 : goal.returns-then-remainder-divisor-2
returns-then-remainder-divisor-2 c =
    let a = c.args in
    rounds a.quotient a.remainder a.divisor (above_half a.quotient a.remainder a.divisor (omega arith))

pub returns : goal.returns
returns c =
    let a = c.args in
    rounds a.quotient a.remainder a.divisor (at-half a.quotient a.remainder a.divisor (omega arith))
