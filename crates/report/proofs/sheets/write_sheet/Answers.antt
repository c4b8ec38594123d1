-- `report::sheets::write_sheet` meets its contract: either table has room. Assumes nothing.
use native.Mathlib.Omega.{arith}
use Rattle.book_words.proofs.SoundTests.{sound-counted}
use Rattle.report.proofs.sheets.write_sheet.Goals as goal

pub write_with_table-requires-2-clause-room : goal.write_with_table-requires-2-clause-room
write_with_table-requires-2-clause-room c =
    omega (arith, sound-counted c.args.book.now c.count.ensures.book)
