-- A fraction against its limit, by a quotient of its numerator less 1. Assumes nothing.
use mathlib.Core.Bool.{true, false}
use mathlib.Core.Logic.{◌⊎◌, inl, inr}
use mathlib.Core.Path.{◌≡◌}
use Prim.Native.Nat.{ℕ, ◌-◌, ◌*◌, ◌/◌, ◌≤◌, ◌<◌}
use native.Mathlib.Nat.{div-add-mod', mod-lt, mul-le-mul_right}
use native.Mathlib.Omega.{arith}
use borrow.Author.Tests.{lt-ltb, le-ltb}
use Rattle.std.proofs.Common.{Ok, Err}
use Rattle.apportion.specs.Fractions.{nearest, over}
use Rattle.apportion.specs.declared.refusing.Refusal.TheVariants.{WrongCell}
use Rattle.workbook.specs.Doubles.{is_above}
use Rattle.workbook.specs.Inner.Steps.{conversion_in, fraction_conversion}

module _ (limit n d : ℕ) (some : 0 < d) where
  above : 0 < n → limit ≤ (n - 1) / d → is_above limit (over n d) ≡ true
  above more h = lt-ltb (limit * d) n (omega (arith, div-add-mod' (n - 1) d, mul-le-mul_right d h))

  within : (n ≡ 0) ⊎ ((n - 1) / d < limit) → is_above limit (over n d) ≡ false
  within (inl e) = le-ltb (limit * d) n (omega arith)
  within (inr h) =
      le-ltb (limit * d) n (omega (arith, div-add-mod' (n - 1) d, mod-lt (n - 1) some, mul-le-mul_right d h))

  -- above the limit
  pub fraction-refused : 0 < n → limit ≤ (n - 1) / d → conversion_in (Err WrongCell) ≡ fraction_conversion limit (over n d)
  unfolding fraction_conversion
  fraction-refused more h = rw (above more h)

  -- within it
  pub fraction-converted : (n ≡ 0) ⊎ ((n - 1) / d < limit) → conversion_in (Ok (nearest (1000 * n) d)) ≡ fraction_conversion limit (over n d)
  unfolding fraction_conversion
  fraction-converted h = rw (within h)
