-- `report::refusals::refusal_line` meets its contract: the line has room. Assumes nothing.
use Rattle.report.specs.Sheet.{refused_word, refused_text}
use Rattle.report.proofs.Lines.{refused-fits}
use Rattle.report.proofs.refusals.refusal_line.Goals as goal

pub put_word_line-count-requires : goal.put_word_line-count-requires
unfolding refused_text refused_word
put_word_line-count-requires c = refused-fits _ _ _
