-- `workbook::lines::convert` meets its contract. Assumes nothing.
use Rattle.apportion.proofs.Refusals.{handed-on_as}
use Rattle.workbook.proofs.CellGrounds.{quantity_refused, operation_refused, provision_refused, line-converted}
use Rattle.workbook.proofs.lines.convert.Goals as goal

pub returns-in_err-quantity : goal.returns-in_err-quantity
returns-in_err-quantity c =
    rw (handed-on_as _ _ c.from_residual.ensures.1) (quantity_refused c.args.line _ c.in_err-quantity.ensures)

pub returns-in_err-operation_factor : goal.returns-in_err-operation_factor
returns-in_err-operation_factor c =
    rw (handed-on_as _ _ c.from_residual-in_err-operation_factor.ensures.1)
    (operation_refused c.args.line _ c.in_ok-quantity.ensures _ c.in_err-operation_factor.ensures)

pub returns-in_err-provision_factor : goal.returns-in_err-provision_factor
returns-in_err-provision_factor c =
    rw (handed-on_as _ _ c.from_residual-in_err-provision_factor.ensures.1)
    (provision_refused c.args.line _ c.in_ok-quantity.ensures _ c.in_ok-operation_factor.ensures _ c.in_err-provision_factor.ensures)

pub returns : goal.returns
returns c =
    line-converted c.args.line _ c.in_ok-quantity.ensures _ c.in_ok-operation_factor.ensures _ c.in_ok-provision_factor.ensures
