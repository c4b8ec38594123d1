-- What is the same, and the sums over a list that is the same in two books. Assumes nothing.
use mathlib.Core.Bool.{cond}
use mathlib.Core.List.{List}
use mathlib.Core.Path.{◌≡◌, ap}
use Prim.Native.Nat.{ℕ, ◌<◌}
use lib.Dec.{eqb}
use Rattle.apportion.specs.Places.{sum_below}
use Rattle.book_words.specs.Book.{entries, entry_at, elements, element_at}
use Rattle.book_words.specs.Measures.{standard_activity}
use Rattle.book_words.specs.declared.totals.Side.{Side}
use Rattle.book_words.specs.Totals.{all_unstruck, unstruck_of, unstruck, shares_of, activities, share_of}
use Rattle.apportion.proofs.Sums.{sum-cong}

-- a sum over records that are the same in two lists
sum_kept : {A : Type 0} (n n' : ℕ) (r r' : ℕ → A) (f : A → ℕ) → n' ≡ n → ((p : ℕ) → p < n → r' p ≡ r p)
    → sum_below n' (λ p. f (r' p)) ≡ sum_below n (λ p. f (r p))
sum_kept n n' r r' f e same = rw e (sum-cong n (λ p. f (r' p)) (λ p. f (r p)) (λ p h. ap f (same p h)))

module _ (ws ws' : List ℕ) where
  pub entries-kept : entries ws' ≡ entries ws → ((p : ℕ) → p < entries ws → entry_at ws' p ≡ entry_at ws p)
      → ((s : Side) → all_unstruck ws' s ≡ all_unstruck ws s) × ((k : ℕ) (s : Side) → unstruck_of ws' k s ≡ unstruck_of ws k s)
  unfolding all_unstruck unstruck_of
  entries-kept e same =
      let kept = sum_kept (entries ws) (entries ws') (entry_at ws) (entry_at ws') in
      (λ s. kept (unstruck s) e same, λ k s. kept (λ r. cond (eqb r.category k) (unstruck s r) 0) e same)

  pub elements-kept : elements ws' ≡ elements ws → ((p : ℕ) → p < elements ws → element_at ws' p ≡ element_at ws p)
      → ((k : ℕ) (s : Side) → shares_of ws' k s ≡ shares_of ws k s) × (activities ws' ≡ activities ws)
  unfolding shares_of activities
  elements-kept e same =
      let kept = sum_kept (elements ws) (elements ws') (element_at ws) (element_at ws') in
      (λ k s. kept (λ r. cond (eqb r.category k) (share_of s r) 0) e same, kept standard_activity e same)
