-- `workbook::doubles::nearest_shifted` meets its contract. Assumes nothing.
use mathlib.Core.Path.{◌≡◌, ◌∙◌, ap, sym}
use Prim.Native.Nat.{ℕ, ◌+◌, ◌*◌, ◌/◌, ◌^◌, ◌≤◌}
use native.Mathlib.Nat.{div-add-mod', mod-lt, mul-le-mul_left}
use native.Mathlib.Omega.{arith}
use lib.Pow.{pow_mono, pow_pos}
use Rattle.std.proofs.lemmas.Nat.{one_shl}
use Rattle.apportion.specs.Fractions.{nearest}
use Rattle.apportion.proofs.Rounding.{nearest-most, nearest_zero}
use Rattle.workbook.proofs.doubles.nearest_shifted.Goals as goal

pub returns-then-places-gt63 : goal.returns-then-places-gt63
returns-then-places-gt63 c =
    let wide : 2 ^ 64 ≤ 2 ^ c.args.places = pow_mono {i = 64} {j = c.args.places} (omega arith) in
    let small = c.requires in
    sym (nearest_zero c.args.n (2 ^ c.args.places) (omega (arith, wide, small)))

pub overflow_add-result : goal.overflow_add-result
overflow_add-result c =
    let n = c.args.n in
    let divisor = 2 ^ c.args.places in
    let some = pow_pos c.args.places in
    let whole = one_shl c.args.places 64 (omega arith) in
    let rounded = rw whole at c.added_by_rounding.ensures.result_value in
    let is_nearest : n / divisor + c.added_by_rounding.result ≡ nearest n divisor =
    rounded (mod-lt n some) ∙ ap (λ (m : ℕ). nearest m divisor) (div-add-mod' n divisor) in
    let within : n ≤ n * divisor = omega (arith, mul-le-mul_left n some) in
    rw whole (omega (arith, is_nearest, nearest-most n divisor n some within))
