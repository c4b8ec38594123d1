-- `workbook::doubles::convert_fraction` meets its contract. Assumes nothing.
use mathlib.Core.Logic.{inl, inr}
use mathlib.Core.Path.{◌≡◌}
use Prim.Native.Nat.{ℕ, ◌-◌, ◌/◌, ◌^◌, ◌≤◌, ◌<◌}
use native.Mathlib.Nat.{div-eq_of_lt, lt_of_lt_of_le}
use native.Mathlib.Omega.{arith}
use lib.Pow.{pow_mono, pow_pos}
use Rattle.std.proofs.Common.{nat_lt, if◌then◌else◌}
use Rattle.workbook.proofs.FractionLimit.{fraction-refused, fraction-converted}
use Rattle.workbook.proofs.doubles.convert_fraction.Goals as goal
use Rattle.workbook.proofs.doubles.convert_fraction.Goals.{else-digits-gt0-via-then-digits-gt0+else-unbounded_shr-from, else-digits-gt0-via-else-digits-gt0}

-- a shift by 64 or more leaves 0, as the quotient is
shifted : (n places : ℕ) → n < 2 ^ 64 → (if nat_lt places 64 then n / 2 ^ places else 0) ≡ n / 2 ^ places
shifted n places fits =
    let none : 64 ≤ places → n / 2 ^ places ≡ 0 = λ h. div-eq_of_lt (lt_of_lt_of_le fits (pow_mono {i = 64} {j = places} h)) in
    grind (arith, none)

pub returns-then-unbounded_shr-from : goal.returns-then-unbounded_shr-from
returns-then-unbounded_shr-from c =
    fraction-refused c.args.limit c.args.digits (2 ^ c.args.places) (pow_pos c.args.places) c.if-digits-gt0.true
    (rw (← shifted (c.args.digits - 1) c.args.places (omega arith), ← c.unbounded_shr.ensures, ← c.from.ensures) c.if-unbounded_shr-from.true)

pub returns : goal.returns
returns c =
    rw c.nearest_shifted.ensures
    (fraction-converted c.args.limit c.args.digits (2 ^ c.args.places) (pow_pos c.args.places)
    (elim c.else-digits-gt0.branch [
      | else-digits-gt0-via-then-digits-gt0+else-unbounded_shr-from w ↦
          inr (rw (← shifted (c.args.digits - 1) c.args.places (omega arith), ← w.unbounded_shr.ensures, ← w.from.ensures) w.if-unbounded_shr-from.false)
      | else-digits-gt0-via-else-digits-gt0 w ↦ inl (omega arith)
    ]))
