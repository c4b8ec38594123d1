-- `workbook::cells::mean` meets its contract: half of the sum, made within 64 bits, is rounded. Assumes nothing.
use mathlib.Core.Path.{◌≡◌, ◌∙◌, ap}
use Prim.Native.Nat.{ℕ, ◌+◌}
use native.Mathlib.Omega.{arith}
use Rattle.apportion.specs.Fractions.{nearest}
use Rattle.apportion.proofs.Rounding.{nearest-most}
use Rattle.workbook.specs.Cells.{mean}
use Rattle.workbook.proofs.cells.mean.Goals as goal

pub overflow_add-result : goal.overflow_add-result
overflow_add-result c =
    let a = c.args.a in
    let b = c.args.b in
    let is_mean : c.midpoint-quotient.result + c.added_by_rounding.result ≡ mean a b =
    c.added_by_rounding.ensures.result_value (omega arith) ∙ ap (λ (n : ℕ). nearest n 2) (omega (arith, c.midpoint-quotient.ensures)) in
    omega (arith, is_mean, nearest-most (a + b) 2 18_446_744_073_709_551_615 (omega arith) (omega arith))
