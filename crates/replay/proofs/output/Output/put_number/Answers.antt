-- `replay::output::put_number` meets its contract: a number has at most 20 digits. Assumes nothing.
use Rattle.report.proofs.Decimals.{digits-few}
use Rattle.report.proofs.Laws.{front_of}
use Rattle.replay.proofs.output.Output.put_number.Goals as goal

pub put_number-count-requires : goal.put_number-count-requires
put_number-count-requires c = digits-few c.args.number

pub slice_bounds-digits-end : goal.slice_bounds-digits-end
slice_bounds-digits-end c = (front_of c.put_number-count.ensures).inside

pub slice_bounds-put_bytes-end : goal.slice_bounds-put_bytes-end
slice_bounds-put_bytes-end c = (front_of c.put_number-count.ensures).counted

pub returns : goal.returns
returns c = rw (front_of c.put_number-count.ensures).is_text at c.put_bytes.ensures
