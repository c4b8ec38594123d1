-- `book_file::numbers::u64_at` meets its contract: the library's eight bytes are those of the number there. Assumes nothing.
use native.Mathlib.Omega.{arith}
use Rattle.book_file.proofs.NumberBytes.{number_read}
use Rattle.book_file.proofs.numbers.u64_at.Goals as goal

pub returns : goal.returns
returns c =
    omega (arith, number_read 8 c.args.bytes.now c.args.at c.bytes_at.result c.bytes_at.ensures.inside c.bytes_at.ensures.past)
