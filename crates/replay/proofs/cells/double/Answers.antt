-- `replay::cells::double` meets its contract. Assumes nothing.
use lib.Ieee.{div, odd, of_bits, of_fields}
use Rattle.replay.proofs.NanBits.{nan-spelled, number_spelled}
use Rattle.replay.proofs.cells.double.Goals as goal

pub returns-then-bits-gt-INFINITY : goal.returns-then-bits-gt-INFINITY
unfolding div of_bits of_fields odd
returns-then-bits-gt-INFINITY c =
    nan-spelled c.args.bits c.if-bits-gt-INFINITY.true

pub float_from_bits-result : goal.float_from_bits-result
float_from_bits-result c =
    number_spelled c.args.bits c.if-bits-gt-INFINITY.false
