-- A sound book as facts about its records and sums. Assumes nothing.
use mathlib.Core.Bool.{Bool, true, false, not}
use mathlib.Core.List.{List}
use mathlib.Core.Logic.{⊎_elim}
use mathlib.Core.Path.{◌≡◌, ap}
use Prim.Native.Nat.{ℕ, ◌+◌, ◌<◌, ◌≤◌}
use native.Mathlib.Nat.{eq-zero-or-pos}
use native.Mathlib.Omega.{arith}
use lib.Dec.{eqb}
use lib.ListN.{length}
use borrow.Author.Tests.{not-true, ne_eqb, eqb-true, eq-eqb, le-leb}
use Rattle.std.proofs.lemmas.Bool.{and_parts}
use Rattle.apportion.specs.Places.{at}
use Rattle.book_words.specs.Book.{book_length, mark, categories, most_categories, category_at}
use Rattle.book_words.specs.Book.{entries, most_entries, entry_at, elements, most_elements, element_at}
use Rattle.book_words.specs.Inner.Steps.{CountsWithin, Limited}
use Rattle.book_words.specs.Mixture.{mixed}
use Rattle.book_words.specs.Soundness.{category_fine, entry_fine, element_fine, shares_fine}
use Rattle.book_words.specs.Soundness.{sound, header_fine, categories_fine, entries_fine, elements_fine, passengers_fine, sums_fine, closings_fine}
use Rattle.book_words.specs.declared.totals.Side.{Side}
use Rattle.book_words.specs.declared.totals.Side.TheVariants.{Operation as operation, Provision as provision}
use Rattle.book_words.specs.Totals.{most_emissions, shares_of, unstruck_of, activities, most_activity, emitted, sums_of}
use Rattle.book_words.proofs.CappedSums.{within-parts}
use Rattle.book_words.proofs.EveryPlace.{every-at, every}
use Rattle.book_words.proofs.SoundTests.{sound-parts, header-counted, header-marked, sums-limits, limits-limited}

module _ (ws : List ℕ) where
  -- in the category at this place, where it is closed, the shares sum to the unstruck entries
  abbrev pub Balanced : ℕ → Type 0
  Balanced place = ((category_at ws place).closed ≡ 0 → ⊥) → (side : Side) → shares_of ws (place + 1) side ≡ unstruck_of ws (place + 1) side

  pub record SoundFacts : Type 0 where
    pub counts : CountsWithin ws
    pub marked : at ws 0 ≡ mark
    pub each-category : (p : ℕ) → p < categories ws → category_fine (category_at ws p) ≡ true
    pub each-entry : (p : ℕ) → p < entries ws → entry_fine ws (entry_at ws p) ≡ true
    pub each-element : (p : ℕ) → p < elements ws → element_fine ws (element_at ws p) ≡ true
    pub unmixed : (p : ℕ) → p < elements ws → mixed ws p ≡ false
    pub limited : Limited ws
    pub active : activities ws ≤ most_activity
    pub balanced : (p : ℕ) → p < categories ws → Balanced p

  -- the shares of a side sum to the unstruck entries, as the test has it
  abbrev sums-equal : ℕ → Side → Bool
  sums-equal p side = eqb (shares_of ws (p + 1) side) (unstruck_of ws (p + 1) side)

  closed_parts : (p : ℕ) → shares_fine ws p ≡ true → ((category_at ws p).closed ≡ 0 → ⊥)
      → (sums-equal p operation ≡ true) × (sums-equal p provision ≡ true)
  unfolding shares_fine
  closed_parts p e some =
      and_parts (sums-equal p operation) (sums-equal p provision) (rw (ne_eqb (category_at ws p).closed 0 some) at e)

  shares-balanced : (p : ℕ) → shares_fine ws p ≡ true → Balanced p
  shares-balanced p e some operation = eqb-true _ _ (closed_parts p e some).0
  shares-balanced p e some provision = eqb-true _ _ (closed_parts p e some).1

  balanced-shares : (p : ℕ) → Balanced p → shares_fine ws p ≡ true
  unfolding shares_fine
  balanced-shares p balance =
      ⊎_elim
      (λ (e : (category_at ws p).closed ≡ 0). rw (eq-eqb (category_at ws p).closed 0 e))
      (λ (some : 0 < (category_at ws p).closed).
      let closed : (category_at ws p).closed ≡ 0 → ⊥ = λ e. omega arith in
      rw (
        ne_eqb (category_at ws p).closed 0 closed,
        eq-eqb (shares_of ws (p + 1) operation) (unstruck_of ws (p + 1) operation) (balance closed operation),
        eq-eqb (shares_of ws (p + 1) provision) (unstruck_of ws (p + 1) provision) (balance closed provision),
      ))
      (eq-zero-or-pos (category_at ws p).closed)

  pub sound-facts : sound ws ≡ true → SoundFacts
  unfolding categories_fine entries_fine elements_fine passengers_fine closings_fine
  sound-facts e =
      let p = sound-parts ws e in
      record {
        counts = header-counted ws p.header;
        marked = header-marked ws p.header;
        each-category = every-at (categories ws) (λ k. category_fine (category_at ws k)) p.all-categories;
        each-entry = every-at (entries ws) (λ k. entry_fine ws (entry_at ws k)) p.all-entries;
        each-element = every-at (elements ws) (λ k. element_fine ws (element_at ws k)) p.all-elements;
        unmixed = λ k h. not-true (mixed ws k) (every-at (elements ws) (λ q. not (mixed ws q)) p.passengers k h);
        limited = limits-limited ws (sums-limits ws p.sums);
        active = (within-parts (sums_of ws) (sums-limits ws p.sums)).2;
        balanced = λ k h. shares-balanced k (every-at (categories ws) (shares_fine ws) p.closings k h);
      }

  pub facts-sound : SoundFacts → sound ws ≡ true
  unfolding sound header_fine categories_fine entries_fine elements_fine passengers_fine sums_fine closings_fine
  facts-sound w =
      rw (
        le-leb book_length (length ws) w.counts.long,
        eq-eqb (at ws 0) mark w.marked,
        le-leb (categories ws) most_categories w.counts.categories_most,
        le-leb (entries ws) most_entries w.counts.entries_most,
        le-leb (elements ws) most_elements w.counts.elements_most,
        every (categories ws) (λ k. category_fine (category_at ws k)) w.each-category,
        every (entries ws) (λ k. entry_fine ws (entry_at ws k)) w.each-entry,
        every (elements ws) (λ k. element_fine ws (element_at ws k)) w.each-element,
        every (elements ws) (λ k. not (mixed ws k)) (λ k h. ap not (w.unmixed k h)),
        le-leb (emitted ws operation) most_emissions (w.limited operation),
        le-leb (emitted ws provision) most_emissions (w.limited provision),
        le-leb (activities ws) most_activity w.active,
        every (categories ws) (shares_fine ws) (λ k h. balanced-shares k (w.balanced k h)),
      )
