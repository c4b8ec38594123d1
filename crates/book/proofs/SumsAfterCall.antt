-- The sums of ground 10 after a closing. Assumes nothing.
use mathlib.Core.List.{List}
use mathlib.Core.Path.{◌≡◌, refl}
use Prim.Native.Nat.{ℕ, ◌≤◌}
use native.Mathlib.Omega.{arith}
use Rattle.apportion.proofs.Sums.{sum-cong}
use Rattle.book_words.specs.Book.{elements, element_at}
use Rattle.book_words.specs.Measures.{standard_activity}
use Rattle.book_words.specs.Inner.Steps.{CountsWithin}
use Rattle.book_words.specs.declared.totals.Side.{Side}
use Rattle.book_words.specs.Totals.{emitted, activities, sums_of}
use Rattle.book_words.proofs.SameRecords.{entries-kept}
use Rattle.book_words.proofs.SumsAfterWrite.{same-sums}
use Rattle.book_shares.proofs.CloseWrites.{CategoryClosed}
use Rattle.book_shares.proofs.CloseKeepsSound.{measure-kept, shares-elsewhere}

module _ (ws ws' : List ℕ) where
  pub closing-sums : (category : ℕ) (share : Side → ℕ → ℕ) → CategoryClosed ws ws' category share → CountsWithin ws → 1 ≤ category → sums_of ws' ≡ sums_of ws
  unfolding activities standard_activity
  closing-sums category share a counts some =
      let entry = entries-kept ws ws' a.same_entries (λ p h. a.entry_kept p (omega (arith, counts.entries_most))) in
      same-sums ws ws' (emitted ws) (λ s. omega (arith, entry.0 s, shares-elsewhere ws ws' category share a 0 s (λ z. omega arith)))
      (rw a.same_elements
      (sum-cong (elements ws) (λ p. standard_activity (element_at ws' p)) (λ p. standard_activity (element_at ws p))
      (measure-kept ws ws' category share a standard_activity (λ r x y. refl))))
