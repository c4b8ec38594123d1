-- `book_words::totals::capped_amounts_of` meets its contract: it adds up the records' amounts in the category, capped. Assumes nothing.
use mathlib.Core.Path.{◌∙◌}
use Prim.Native.Nat.{ℕ, ◌+◌}
use Rattle.std.proofs.Common.{rules}
use Rattle.apportion.specs.Places.{sum_below}
use Rattle.book_words.specs.declared.totals.Amounts.{Amounts}
use Rattle.book_words.specs.declared.totals.Side.{Side}
use Rattle.book_words.specs.Inner.Steps.{by_sides, side_of, capped}
use Rattle.apportion.proofs.Sums.{sum-next}
use Rattle.book_words.proofs.CappedSums.{capped-add}
use Rattle.book_words.proofs.Folds.{fold-runs, fold-value}
use Rattle.book_words.proofs.totals.capped_amounts_of.Goals as goal

pub returns : goal.returns
returns g c =
    let f : Side → ℕ → ℕ = λ s p. g.R.Summed.amount_in c.args.category s (g.R.Record.record_at c.args.words.now p) in
    let step : Amounts → ℕ → Amounts = λ a p. by_sides (λ s. capped (side_of s a + f s p)) in
    fold-runs step (λ a x b f' k. search rules) c.count.ensures.value c.fold.ensures.ran
    ∙ fold-value step (λ n. by_sides (λ s. capped (sum_below n (f s)))) (λ k. simp (capped-add, sum-next)) (search rules) _
