-- `workbook::cells::convert_span` meets its contract. Assumes nothing.
use Rattle.apportion.proofs.Refusals.{handed-on_as}
use Rattle.workbook.proofs.CellGrounds.{span-first, span_second, span-exchanged, span-converted}
use Rattle.workbook.proofs.cells.convert_span.Goals as goal

pub returns-in_err-low : goal.returns-in_err-low
returns-in_err-low c =
    rw (handed-on_as _ _ c.from_residual.ensures.1) (span-first c.args.limit c.args.span.first c.args.span.second _ c.in_err-low.ensures)

pub returns-in_err-high : goal.returns-in_err-high
returns-in_err-high c =
    rw (handed-on_as _ _ c.from_residual-in_err-high.ensures.1)
    (span_second c.args.limit c.args.span.first c.args.span.second _ c.in_ok-low.ensures _ c.in_err-high.ensures)

pub returns-then-span : goal.returns-then-span
returns-then-span c =
    span-exchanged c.args.limit c.args.span.first c.args.span.second _ c.in_ok-low.ensures _ c.in_ok-high.ensures c.if-span.true

pub returns : goal.returns
returns c =
    rw c.mean.ensures (span-converted c.args.limit c.args.span.first c.args.span.second _ c.in_ok-low.ensures _ c.in_ok-high.ensures c.if-span.false)
