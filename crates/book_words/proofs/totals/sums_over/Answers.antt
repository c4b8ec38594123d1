-- `book_words::totals::sums_over` meets its contract: it adds one record after the other, capped. Assumes nothing.
use mathlib.Core.Path.{◌≡◌, refl}
use Rattle.std.proofs.Common.{rules}
use Rattle.std.proofs.iter.Serving.{serving}
use Rattle.std.proofs.lemmas.Fn.{serves_by}
use Rattle.book_words.proofs.Folds.{fold-runs}
use Rattle.book_words.proofs.totals.sums_over.Goals as goal

pub fold-requires-clause-callable : goal.fold-requires-clause-callable
fold-requires-clause-callable g c =
    serves_by _ (λ ys q. q.0.0.now ≡ c.args.words.now) (λ xs q x v so call. search rules) _ _ _ _ refl
    (λ xs t q x u came step so. grind serving)

pub returns : goal.returns
returns g c =
    fold-runs _ (λ a x b f' k. search rules) c.count.ensures.value c.fold.ensures.ran
