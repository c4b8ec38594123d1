-- `workbook::doubles::convert_double` meets its contract: the bits of a double spell it. Assumes nothing.
use mathlib.Core.Bool.{true, true≢false}
use mathlib.Core.Path.{◌≡◌, ◌∙◌, ap, refl, sym, subst}
use Prim.Native.Nat.{ℕ}
use lib.Dec.{T}
use lib.Ieee.{Float, nan, inf, fin, binary64, is_nan}
use lib.Ieee.Bits.{of_bits-to_bits}
use Rattle.workbook.specs.declared.cells.Cell.TheVariants.{Number}
use Rattle.workbook.specs.Doubles.{is_refused}
use Rattle.workbook.specs.Inner.Steps.{conversion_of}
use Rattle.workbook.proofs.SameValue.{refused-double}
use Rattle.workbook.proofs.doubles.convert_double.Goals as goal

nan-refused : (limit : ℕ) (x : Float) → is_nan x ≡ true → is_refused limit x ≡ true
unfolding is_refused is_nan
nan-refused limit nan e = refl
nan-refused limit (inf s) e = absurd (true≢false (sym e))
nan-refused limit (fin s m k) e = absurd (true≢false (sym e))

pub returns-then-is_nan : goal.returns-then-is_nan
returns-then-is_nan c = refused-double c.args.limit c.args.x (nan-refused c.args.limit c.args.x (sym c.is_nan.ensures.value ∙ c.if-is_nan.true))

pub returns-else-is_nan : goal.returns-else-is_nan
returns-else-is_nan c =
    c.convert_bits.ensures ∙ ap (λ (x : Float). conversion_of c.args.limit (Number x)) (of_bits-to_bits binary64 c.args.x (subst T (sym c.well_formed.0.1) tt))
