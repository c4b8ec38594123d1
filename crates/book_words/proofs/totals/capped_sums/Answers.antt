-- `book_words::totals::capped_sums` meets its contract: the elements are added to the sums of the entries, capped. Assumes nothing.
use mathlib.Core.Path.{◌∙◌}
use Rattle.std.proofs.Common.{rules}
use native.Mathlib.Nat.{add-zero, add_assoc}
use Rattle.apportion.proofs.Sums.{sum-next}
use Rattle.book_words.specs.Book.{entries, entry_at, elements, element_at}
use Rattle.book_words.specs.Inner.Steps.{sums_below, cap_sums}
use Rattle.book_words.specs.Totals.{with_entry, with_element, all_unstruck, shares_of, activities}
use Rattle.book_words.proofs.CappedSums.{capped-add}
use Rattle.book_words.proofs.Folds.{fold-value}
use Rattle.book_words.proofs.totals.capped_sums.Goals as goal

pub returns : goal.returns
unfolding all_unstruck shares_of activities
returns c =
    let ws = c.args.words.now in
    let of_entries =
    fold-value (λ sums p. cap_sums (with_entry sums (entry_at ws p))) (λ n. cap_sums (sums_below ws n 0))
    (λ k. simp (capped-add, sum-next, add-zero)) (search rules) (entries ws) in
    c.sums_over.ensures
    ∙ fold-value (λ sums p. cap_sums (with_element sums (element_at ws p))) (λ n. cap_sums (sums_below ws (entries ws) n))
    (λ k. simp (capped-add, sum-next, add_assoc)) (c.sums_over-of_entries.ensures ∙ of_entries) (elements ws)
