-- The sums of ground 10 over a book with one record more. Assumes nothing.
use mathlib.Core.Bool.{true, cond}
use mathlib.Core.List.{List}
use mathlib.Core.Path.{◌≡◌, ap}
use Prim.Native.Nat.{ℕ, ◌≤◌, ◌<◌, ◌+◌}
use native.Mathlib.Omega.{arith}
use lib.Dec.{eqb}
use Rattle.apportion.specs.Places.{sum_below}
use Rattle.apportion.proofs.Sums.{sum-next, sum-cong}
use Rattle.book_words.specs.Book.{appended, entry_list, entry_words, element_list, element_words, entries, most_entries, add_entry, elements, most_elements, add_element}
use Rattle.book_words.specs.Measures.{standard_activity}
use Rattle.book_words.specs.Soundness.{sound}
use Rattle.book_words.specs.declared.totals.Side.{Side}
use Rattle.book_words.specs.declared.totals.Side.TheVariants.{Operation as operation, Provision as provision}
use Rattle.book_words.specs.Totals.{unstruck, all_unstruck, unstruck_of, share_of, shares_of}
use Rattle.book_words.specs.Totals.{emitted, activities, sums_of, with_entry, with_element}
use Rattle.book_words.specs.declared.records.Category.{Category}
use Rattle.book_words.specs.declared.records.Element.{Element}
use Rattle.book_words.specs.declared.records.Entry.{Entry}
use Rattle.book_words.specs.declared.totals.Sums.{Sums}
use Rattle.book_words.proofs.SoundTests.{sound-counted}
use Rattle.book_words.proofs.SameRecords.{entries-kept, elements-kept}
use Rattle.book_words.proofs.RecordsAfterWrite.{CategoryAdded, EntryAdded, entry-added, ElementAdded, element-added}

-- the sum over a list with one record more
sum-one-more : {R : Type 0} {n n' : ℕ} {old new : ℕ → R} {r : R} → n' ≡ n + 1 → ((p : ℕ) → p < n → new p ≡ old p) → new n ≡ r
    → (f : R → ℕ) → sum_below n' (λ p. f (new p)) ≡ sum_below n (λ p. f (old p)) + f r
sum-one-more {n = n} {old = old} {new = new} e same here f =
    rw (e, sum-next n (λ p. f (new p)), sum-cong n (λ p. f (new p)) (λ p. f (old p)) (λ p h. ap f (same p h)), here)

module _ (ws ws' : List ℕ) where
  -- the sums with one entry more
  pub entries-more : (r : Entry) → EntryAdded ws ws' r
      → ((s : Side) → all_unstruck ws' s ≡ all_unstruck ws s + unstruck s r)
      × ((k : ℕ) (s : Side) → unstruck_of ws' k s ≡ unstruck_of ws k s + cond (eqb r.category k) (unstruck s r) 0)
  unfolding all_unstruck unstruck_of
  entries-more r a =
      let more = sum-one-more a.one_more (λ p h. a.entry_kept p (λ e. omega arith)) a.entry_new in
      (λ s. more (unstruck s), λ k s. more (λ x. cond (eqb x.category k) (unstruck s x) 0))

  -- the sums with one element more
  pub elements-more : (r : Element) → ElementAdded ws ws' r
      → ((k : ℕ) (s : Side) → shares_of ws' k s ≡ shares_of ws k s + cond (eqb r.category k) (share_of s r) 0)
      × (activities ws' ≡ activities ws + standard_activity r)
  unfolding shares_of activities
  elements-more r a =
      let more = sum-one-more a.one_more (λ p h. a.element_kept p (λ e. omega arith)) a.element-new in
      (λ k s. more (λ x. cond (eqb x.category k) (share_of s x) 0), more standard_activity)

  -- sums that are equal one by one
  pub same-sums : (amount : Side → ℕ) {activity : ℕ} → ((s : Side) → emitted ws' s ≡ amount s) → activities ws' ≡ activity
      → sums_of ws' ≡ record { operation = amount operation; provision = amount provision; activity = activity }
  same-sums amount e f = rw (e operation, e provision, f)

  pub category-sums : (r : Category) → CategoryAdded ws ws' r → sums_of ws' ≡ sums_of ws
  category-sums r a =
      let entry = entries-kept ws ws' a.same_entries (λ p h. a.entry_kept p) in
      let element = elements-kept ws ws' a.same_elements (λ p h. a.element_kept p) in
      same-sums (emitted ws) (λ s. omega (arith, entry.0 s, element.0 0 s)) element.1

  pub entry-sums : (r : Entry) → EntryAdded ws ws' r → sums_of ws' ≡ with_entry (sums_of ws) r
  entry-sums r a =
      let entry = entries-more r a in
      let element = elements-kept ws ws' a.same_elements (λ p h. a.element_kept p) in
      same-sums (λ s. emitted ws s + unstruck s r) (λ s. omega (arith, entry.0 s, element.0 0 s)) element.1

  pub element-sums : (r : Element) → ElementAdded ws ws' r → entries ws ≤ most_entries → sums_of ws' ≡ with_element (sums_of ws) r
  element-sums r a most =
      let entry = entries-kept ws ws' a.same_entries (λ p h. a.entry_kept p (omega arith)) in
      let element = elements-more r a in
      same-sums (λ s. emitted ws s + cond (eqb r.category 0) (share_of s r) 0) (λ s. omega (arith, entry.0 s, element.0 0 s)) element.1

-- the sums that are known, with the record that is appended to a sound book
module _ (ws : List ℕ) (sums : Sums) where
  pub entry-counted : (r : Entry) → (sound ws ≡ true) × ((sums ≡ sums_of ws) × (entries ws < most_entries))
      → sums_of (appended ws entry_list (entry_words r)) ≡ with_entry sums r
  unfolding add_entry
  entry-counted r pre = rw pre.1.0 (entry-sums ws (add_entry ws r) r (entry-added ws (sound-counted ws pre.0).long r pre.1.1))

  pub element-counted : (r : Element) → (sound ws ≡ true) × ((sums ≡ sums_of ws) × (elements ws < most_elements))
      → sums_of (appended ws element_list (element_words r)) ≡ with_element sums r
  unfolding add_element
  element-counted r pre =
      let counts = sound-counted ws pre.0 in
      rw pre.1.0 (element-sums ws (add_element ws r) r (element-added ws counts.long r pre.1.1) counts.entries_most)
