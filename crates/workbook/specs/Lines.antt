-- "A line has three cells: quantity in units, and two factors in grams per unit." Assumes nothing.
use Rattle.std.specs.Prelude.{List, ◌++◌, ℕ, Result, Ok, Err}
use Rattle.apportion.specs.Grounds.{accepted, Ground, first_of}
use Rattle.apportion.specs.Refusals.{number_of}
use Rattle.apportion.specs.declared.refusing.Refusal.{Refusal}
use Rattle.workbook.specs.declared.cells.Cell.{Cell}
use Rattle.workbook.specs.declared.lines.Line.{Line}
use Rattle.workbook.specs.Cells.{quantity_limit, factor_limit, cell_grounds, cell_value}

-- "cell by cell from the left"
abbrev pub line_grounds : Line Cell → List Ground
line_grounds line =
    cell_grounds quantity_limit line.quantity
    ++ (cell_grounds factor_limit line.operation_factor ++ cell_grounds factor_limit line.provision_factor)

unfoldable pub line_refusal : Line Cell → ℕ
line_refusal line = first_of (line_grounds line)

-- what a line is posted with, in thousandths of its units; "A refusal returns its number with zeros"
pub record LineConversion : Type 0 where
  pub refusal : ℕ
  pub quantity : ℕ
  pub operation_factor : ℕ
  pub provision_factor : ℕ

abbrev pub converted_line : Line Cell → LineConversion
converted_line line =
    record {
      refusal = line_refusal line;
      quantity = accepted (line_refusal line) (cell_value line.quantity) 0;
      operation_factor = accepted (line_refusal line) (cell_value line.operation_factor) 0;
      provision_factor = accepted (line_refusal line) (cell_value line.provision_factor) 0;
    }

-- what an answer says
abbrev pub line_conversion_in : Result (Line ℕ) Refusal → LineConversion
line_conversion_in (Ok line) =
    record {
      refusal = 0;
      quantity = line.quantity;
      operation_factor = line.operation_factor;
      provision_factor = line.provision_factor;
    }
line_conversion_in (Err refusal) = record { refusal = number_of refusal; quantity = 0; operation_factor = 0; provision_factor = 0 }
