-- `report::sheets::sheet_sound` meets its contract, in a buffer with room for any sheet. Assumes nothing.
use native.Mathlib.Omega.{arith}
use Rattle.report.proofs.Laws.{sheet-stored}
use Rattle.report.proofs.sheets.sheet_sound.Goals as goal

pub returns-then-out-ge-SHEET_ROOM : goal.returns-then-out-ge-SHEET_ROOM
returns-then-out-ge-SHEET_ROOM c =
    let stored = sheet-stored c.args.book.now c.args.out.now c.write_sheet.ensures.book (omega (arith, c.if-out-ge-SHEET_ROOM.true)) c.write_sheet.ensures.put in
    record {
      book = c.write_sheet.ensures.book;
      value = stored.0;
      result_value = stored.1.0;
      out_after = stored.1.1;
    }
