-- `book_file::numbers::u32_at` meets its contract: the library's four bytes are those of the number there. Assumes nothing.
use native.Mathlib.Omega.{arith}
use Rattle.book_file.proofs.NumberBytes.{number_read}
use Rattle.book_file.proofs.numbers.u32_at.Goals as goal

pub returns : goal.returns
returns c =
    omega (arith, number_read 4 c.args.bytes.now c.args.at c.bytes_at.result c.bytes_at.ensures.inside c.bytes_at.ensures.past)
