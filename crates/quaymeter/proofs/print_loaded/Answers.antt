-- `quaymeter::print_loaded` meets its contract, by the answer of loading. Assumes nothing.
use mathlib.Core.Path.{◌∙◌, ap, sym}
use Rattle.book_file.proofs.Laws.{loaded-sound}
use Rattle.book_words.specs.Soundness.{sound}
use Rattle.quaymeter.proofs.print_loaded.Goals as goal

pub of-requires : goal.of-requires
of-requires c =
    let fine = loaded-sound _ _ (sym c.load-answer.ensures.value ∙ c.in-Loaded.is) in
    ap sound c.load-answer.ensures.book_after ∙ fine
