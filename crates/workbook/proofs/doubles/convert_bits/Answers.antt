-- `workbook::doubles::convert_bits` meets its contract. Assumes nothing.
use mathlib.Core.Path.{◌∙◌}
use native.Mathlib.Omega.{arith}
use Rattle.workbook.proofs.BitFields.{negative-refused, large-refused, low-converted, converted}
use Rattle.workbook.proofs.doubles.convert_bits.Goals as goal

pub returns-then-negative : goal.returns-then-negative
returns-then-negative c =
    negative-refused c.args.limit c.args.bits c.if-negative.true (omega arith)

pub returns-in-0 : goal.returns-in-0
returns-in-0 c =
    c.convert_fraction.ensures ∙ low-converted c.args.limit c.args.bits c.if-negative.false c.in-0.is

pub returns-in-1-to-1074 : goal.returns-in-1-to-1074
returns-in-1-to-1074 c =
    c.convert_fraction-in-1-to-1074.ensures ∙ converted c.args.limit c.args.bits c.if-negative.false (omega arith) (omega arith)

pub returns-in_default : goal.returns-in_default
returns-in_default c =
    large-refused c.args.limit c.args.bits (omega arith) c.if-negative.false (omega arith)
