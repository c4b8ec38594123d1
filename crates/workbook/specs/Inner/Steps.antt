-- What inner functions answer, by document 02's number and the value. Assumes nothing.
use Rattle.std.specs.Prelude.{cond, ℕ, Result}
use Rattle.apportion.specs.Fractions.{Fraction}
use Rattle.apportion.specs.Grounds.{accepted}
use Rattle.apportion.specs.Refusals.{refusal_in, value_in}
use Rattle.apportion.specs.declared.refusing.Refusal.{Refusal}
use Rattle.workbook.specs.declared.cells.Cell.{Cell}
use Rattle.workbook.specs.Doubles.{thousandths, is_above}
use Rattle.workbook.specs.Cells.{cell_refusal, cell_value}

-- a refusal number, 0 where there is a value; and the value, 0 beside a number
pub record Conversion : Type 0 where
  pub refusal : ℕ
  pub value : ℕ

-- what an answer says
abbrev pub conversion_in : Result ℕ Refusal → Conversion
conversion_in answer = record { refusal = refusal_in answer; value = value_in 0 answer }

-- the conversion with this refusal number, or with this value where it is 0
abbrev pub conversion_by : ℕ → ℕ → Conversion
conversion_by refusal value = record { refusal = refusal; value = accepted refusal value 0 }

-- that of a cell
unfoldable pub conversion_of : ℕ → Cell → Conversion
conversion_of limit cell = conversion_by (cell_refusal limit cell) (cell_value cell)

-- that of a fraction: its thousandths, or 15 above the limit
unfoldable pub fraction_conversion : ℕ → Fraction → Conversion
fraction_conversion limit x = conversion_by (cond (is_above limit x) 15 0) (thousandths x)
