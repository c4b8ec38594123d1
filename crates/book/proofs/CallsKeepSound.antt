-- An accepted call leaves a sound book sound. Assumes nothing.
use mathlib.Core.Bool.{true, false, cond, ◌&&◌, not}
use mathlib.Core.List.{List}
use mathlib.Core.Logic.{⊎_elim}
use mathlib.Core.Path.{◌≡◌, sym, ◌∙◌, ap, refl}
use Prim.Native.Nat.{ℕ, ◌≤◌, ◌<◌, ◌-◌, ◌+◌}
use native.Mathlib.Nat.{eq-zero-or-pos, add-zero}
use native.Mathlib.Omega.{arith}
use lib.Dec.{leb, eqb}
use borrow.Author.Tests.{le-leb, ne_eqb}
use Rattle.std.proofs.lemmas.Bool.{and_from, and_parts, cases_eq, cases_lt}
use Rattle.book_words.specs.Book.{categories, category_at, category_of, entries, entry_at, elements, element_at, most_categories, most_entries, most_elements, with_shares}
use Rattle.book_words.specs.Measures.{between, is_group, unsuited_group}
use Rattle.book_words.specs.Mixture.{mixes, mixed}
use Rattle.book_words.specs.Soundness.{most_amount, entry_fine, entry_suits, element_fine, element_suits, category_fine}
use Rattle.book_words.specs.declared.totals.Side.{Side}
use Rattle.book_words.specs.Totals.{unstruck, all_unstruck, unstruck_of, share_of, shares_of, sums_of, with_entry, with_element, within_limits}
use Rattle.book_words.specs.declared.records.Category.{Category}
use Rattle.book_words.specs.declared.records.Element.{Element}
use Rattle.book_words.specs.declared.records.Entry.{Entry}
use Rattle.apportion.proofs.Sums.{sum-cong, sum-le}
use Rattle.book_words.proofs.CappedSums.{within-parts}
use Rattle.book_words.proofs.SoundTests.{limits-limited}
use Rattle.book_words.proofs.SameRecords.{entries-kept, elements-kept}
use Rattle.book_words.proofs.Ranges.{between-low, between-high}
use Rattle.book_words.proofs.RecordRules.{entry-inside, entry-numbered, element-quoted, element-inside, element-numbered}
use Rattle.book_words.proofs.RecordsAfterWrite.{struck_entry, EntryStruck, CategoryAdded, EntryAdded, ElementAdded}
use Rattle.book_words.proofs.Passengers.{mixes-kept, mixed-kept}
use Rattle.book_words.proofs.SoundRecords.{Balanced, SoundFacts}
use Rattle.book_words.proofs.SumsAfterWrite.{entries-more, elements-more, entry-sums, element-sums}

-- the categories that were there are there still, and the same
record Carried (ws ws' : List ℕ) : Type 0 where
  no_fewer : categories ws ≤ categories ws'
  same : (p : ℕ) → p < categories ws → category_at ws' p ≡ category_at ws p

module _ (ws ws' : List ℕ) (carried : Carried ws ws') where
  carried_of : (category : ℕ) → 1 ≤ category → category ≤ categories ws → category_of ws' category ≡ category_of ws category
  carried_of category low high = carried.same (category - 1) (omega arith)

  -- a record that kept the rules keeps them
  entry-carried : (r : Entry) → entry_fine ws r ≡ true → entry_fine ws' r ≡ true
  entry-carried r e =
      let inside = entry-inside ws r e in
      let low = between-low 1 (categories ws) r.category inside in
      let high = between-high 1 (categories ws) r.category inside in
      let most = le-leb r.category (categories ws') (omega (arith, carried.no_fewer)) in
      sym (entry-numbered ws' r (and_from (leb 1 r.category) (leb r.category (categories ws')) (le-leb 1 r.category low) most))
      ∙ ap (λ (k : Category). entry_suits k r) (carried_of r.category low high)
      ∙ entry-numbered ws r inside
      ∙ e

  element-carried : (r : Element) → element_fine ws r ≡ true → element_fine ws' r ≡ true
  element-carried r e =
      ⊎_elim
      (λ (none : r.category ≡ 0). sym (element-quoted ws' r none) ∙ element-quoted ws r none ∙ e)
      (λ (some : 0 < r.category).
      let enrolled : r.category ≡ 0 → ⊥ = λ z. omega arith in
      let high = element-inside ws r enrolled e in
      sym (element-numbered ws' r enrolled (omega (arith, carried.no_fewer)))
      ∙ ap (λ (k : Category). element_suits k r) (carried_of r.category (omega arith) high)
      ∙ element-numbered ws r enrolled high
      ∙ e)
      (eq-zero-or-pos r.category)

-- what an entry adds to the category of this number
abbrev in_category : ℕ → Side → Entry → ℕ
in_category k s r = cond (eqb r.category k) (unstruck s r) 0

-- a place of a list with one record more is an old one, or the last
last : {A : Type 0} (n p : ℕ) → p < n + 1 → (p < n → A) → (p ≡ n → A) → A
last n p h old new = ⊎_elim (λ (i : p < n). old i) (λ (i : n ≤ p). new (omega arith)) (cases_lt p n)

module _ (ws ws' : List ℕ) where
  -- the categories are the same
  module _ (w : SoundFacts ws) (e : categories ws' ≡ categories ws) (same : (p : ℕ) → p < most_categories → category_at ws' p ≡ category_at ws p) where
    carried-over : Carried ws ws'
    carried-over = record { no_fewer = omega arith; same = λ p h. same p (omega (arith, w.counts.categories_most)) }

    same-fine : (p : ℕ) → p < categories ws' → category_fine (category_at ws' p) ≡ true
    same-fine p h = ap category_fine (same p (omega (arith, w.counts.categories_most))) ∙ w.each-category p (omega arith)

    -- and so are the sums of the closed ones
    same-balance : ((p : ℕ) → ((category_at ws p).closed ≡ 0 → ⊥) → (s : Side)
        → (shares_of ws' (p + 1) s ≡ shares_of ws (p + 1) s) × (unstruck_of ws' (p + 1) s ≡ unstruck_of ws (p + 1) s))
        → (p : ℕ) → p < categories ws' → Balanced ws' p
    same-balance sums p h closed s =
        let kept = same p (omega (arith, w.counts.categories_most)) in
        let before : (category_at ws p).closed ≡ 0 → ⊥ = λ z. closed (ap (λ (x : Category). x.closed) kept ∙ z) in
        (sums p before s).0 ∙ w.balanced p (omega arith) before s ∙ sym (sums p before s).1

  -- a record of an open category is of no closed one
  elsewhere-not : (category p : ℕ) → (category_of ws category).closed ≡ 0 → ((category_at ws p).closed ≡ 0 → ⊥) → category ≡ p + 1 → ⊥
  elsewhere-not category p unclosed closed e =
      let here : category - 1 ≡ p = omega arith in
      closed (ap (λ (q : ℕ). (category_at ws q).closed) (sym here) ∙ unclosed)

  elsewhere : (category p n : ℕ) → (category_of ws category).closed ≡ 0 → ((category_at ws p).closed ≡ 0 → ⊥) → cond (eqb category (p + 1)) n 0 ≡ 0
  elsewhere category p n unclosed closed = rw (ne_eqb category (p + 1) (elsewhere-not category p unclosed closed))

  -- a struck entry adds nothing
  struck-fine : (r : Entry) → entry_fine ws r ≡ true → entry_fine ws (struck_entry r) ≡ true
  unfolding entry_fine entry_suits
  struck-fine r e =
      let inside = between 1 (categories ws) r.category in
      let category = category_of ws r.category in
      let rules = is_group r.group && not (unsuited_group category.kind r.group) && leb r.operation most_amount && leb r.provision most_amount in
      let parts = and_parts inside (rules && leb r.struck 1) e in
      and_from inside (rules && true) parts.0 (and_from rules true (and_parts rules (leb r.struck 1) parts.1).0 refl)

  struck-less : (place : ℕ) → EntryStruck ws ws' place → (s : Side) → all_unstruck ws' s ≤ all_unstruck ws s
  unfolding all_unstruck
  struck-less place a s =
      rw a.same_entries
      (sum-le (entries ws) (λ p. unstruck s (entry_at ws' p)) (λ p. unstruck s (entry_at ws p))
      (λ p h.
      ⊎_elim
      (λ (e : p ≡ place). omega (arith, ap (λ (q : ℕ). unstruck s (entry_at ws' q)) e ∙ ap (unstruck s) a.entry-struck))
      (λ (ne : p ≡ place → ⊥). omega (arith, ap (unstruck s) (a.entry_kept p ne)))
      (cases_eq p place)))

  struck-elsewhere : (place : ℕ) → EntryStruck ws ws' place → (k : ℕ) (s : Side) → ((entry_at ws place).category ≡ k → ⊥) → unstruck_of ws' k s ≡ unstruck_of ws k s
  unfolding unstruck_of
  struck-elsewhere place a k s other =
      rw a.same_entries
      (sum-cong (entries ws)
      (λ p. cond (eqb (entry_at ws' p).category k) (unstruck s (entry_at ws' p)) 0)
      (λ p. cond (eqb (entry_at ws p).category k) (unstruck s (entry_at ws p)) 0)
      (λ p h.
      ⊎_elim
      (λ (e : p ≡ place).
      ap (λ (q : ℕ). in_category k s (entry_at ws' q)) e
      ∙ ap (in_category k s) a.entry-struck
      ∙ none (struck_entry (entry_at ws place)) other
      ∙ sym (ap (λ (q : ℕ). in_category k s (entry_at ws q)) e ∙ none (entry_at ws place) other))
      (λ (ne : p ≡ place → ⊥). ap (in_category k s) (a.entry_kept p ne))
      (cases_eq p place)))
    where
      none : (r : Entry) → (r.category ≡ k → ⊥) → cond (eqb r.category k) (unstruck s r) 0 ≡ 0
      none r ne = rw (ne_eqb r.category k ne)

  -- where the elements are the same, they keep their rules
  elements-fine : SoundFacts ws → Carried ws ws' → elements ws' ≡ elements ws → ((p : ℕ) → element_at ws' p ≡ element_at ws p)
      → (p : ℕ) → p < elements ws' → element_fine ws' (element_at ws' p) ≡ true
  elements-fine w carried e same p h =
      ap (element_fine ws') (same p) ∙ element-carried ws ws' carried (element_at ws p) (w.each-element p (omega arith))

  -- nor do they mix
  elements-unmixed : SoundFacts ws → elements ws' ≡ elements ws → ((p : ℕ) → element_at ws' p ≡ element_at ws p) → (p : ℕ) → p < elements ws' → mixed ws' p ≡ false
  elements-unmixed w e same p h =
      let i : p < elements ws = omega arith in
      mixed-kept ws ws' (elements ws) (λ q j. ap (λ (r : Element). with_shares r 0 0) (same q)) p i ∙ w.unmixed p i

  -- a category appended
  pub open-keeps : (r : Category) → SoundFacts ws → CategoryAdded ws ws' r → categories ws < most_categories → category_fine r ≡ true → r.closed ≡ 0
      → SoundFacts ws'
  open-keeps r w a room fine unclosed =
      let carried : Carried ws ws' = record { no_fewer = omega (arith, a.one_more); same = λ p h. a.category_kept p (λ e. omega arith) } in
      let entry-sums = entries-kept ws ws' a.same_entries (λ p h. a.entry_kept p) in
      let element-sums = elements-kept ws ws' a.same_elements (λ p h. a.element_kept p) in
      record {
        counts = omega (arith, w.counts, a.same_length, a.one_more, a.same_entries, a.same_elements);
        marked = a.same_mark ∙ w.marked;
        each-category = λ p h.
            last (categories ws) p (omega (arith, a.one_more))
            (λ i. ap category_fine (a.category_kept p (λ e. omega arith)) ∙ w.each-category p i)
            (λ e. ap (λ (q : ℕ). category_fine (category_at ws' q)) e ∙ ap category_fine a.category-new ∙ fine);
        each-entry = λ p h.
            ap (entry_fine ws') (a.entry_kept p) ∙ entry-carried ws ws' carried (entry_at ws p) (w.each-entry p (omega (arith, a.same_entries)));
        each-element = elements-fine w carried a.same_elements a.element_kept;
        unmixed = elements-unmixed w a.same_elements a.element_kept;
        limited = λ s. omega (arith, entry-sums.0 s, element-sums.0 0 s, w.limited s);
        active = omega (arith, element-sums.1, w.active);
        balanced = λ p h closed s.
            last (categories ws) p (omega (arith, a.one_more))
            (λ i.
            let closed-before : (category_at ws p).closed ≡ 0 → ⊥ =
            λ e. closed (ap (λ (x : Category). x.closed) (a.category_kept p (λ same. omega arith)) ∙ e) in
            element-sums.0 (p + 1) s ∙ w.balanced p i closed-before s ∙ sym (entry-sums.1 (p + 1) s))
            (λ e. absurd (closed (ap (λ (q : ℕ). (category_at ws' q).closed) e ∙ ap (λ (x : Category). x.closed) a.category-new ∙ unclosed)));
      }

  -- an entry appended
  pub post-keeps : (r : Entry) → SoundFacts ws → EntryAdded ws ws' r → entries ws < most_entries → entry_fine ws r ≡ true
      → (category_of ws r.category).closed ≡ 0
      → within_limits (with_entry (sums_of ws) r) ≡ true → SoundFacts ws'
  post-keeps r w a room fine unclosed within =
      let sums = ap within_limits (entry-sums ws ws' r a) ∙ within in
      let carried = carried-over w a.same_categories a.category_kept in
      let entry_more = entries-more ws ws' r a in
      let element-sums = elements-kept ws ws' a.same_elements (λ p h. a.element_kept p) in
      record {
        counts = omega (arith, w.counts, a.same_length, a.same_categories, a.one_more, a.same_elements);
        marked = a.same_mark ∙ w.marked;
        each-category = same-fine w a.same_categories a.category_kept;
        each-entry = λ p h.
            last (entries ws) p (omega (arith, a.one_more))
            (λ i. ap (entry_fine ws') (a.entry_kept p (λ e. omega arith)) ∙ entry-carried ws ws' carried (entry_at ws p) (w.each-entry p i))
            (λ e. ap (λ (q : ℕ). entry_fine ws' (entry_at ws' q)) e ∙ ap (entry_fine ws') a.entry_new ∙ entry-carried ws ws' carried r fine);
        each-element = elements-fine w carried a.same_elements a.element_kept;
        unmixed = elements-unmixed w a.same_elements a.element_kept;
        limited = limits-limited ws' sums;
        active = (within-parts (sums_of ws') sums).2;
        balanced = same-balance w a.same_categories a.category_kept
            (λ p closed s.
            (element-sums.0 (p + 1) s, entry_more.1 (p + 1) s ∙ rw (elsewhere r.category p (unstruck s r) unclosed closed, add-zero)));
      }

  -- an entry struck
  pub strike-keeps : (place : ℕ) → SoundFacts ws → EntryStruck ws ws' place → place < entries ws → (category_of ws (entry_at ws place).category).closed ≡ 0
      → SoundFacts ws'
  strike-keeps place w a h unclosed =
      let carried = carried-over w a.same_categories a.category_kept in
      let element-sums = elements-kept ws ws' a.same_elements (λ p i. a.element_kept p) in
      record {
        counts = omega (arith, w.counts, a.same_length, a.same_categories, a.same_entries, a.same_elements);
        marked = a.same_mark ∙ w.marked;
        each-category = same-fine w a.same_categories a.category_kept;
        each-entry = λ p i.
            ⊎_elim
            (λ (e : p ≡ place).
            ap (λ (q : ℕ). entry_fine ws' (entry_at ws' q)) e
            ∙ ap (entry_fine ws') a.entry-struck
            ∙ entry-carried ws ws' carried (struck_entry (entry_at ws place)) (struck-fine (entry_at ws place) (w.each-entry place h)))
            (λ (ne : p ≡ place → ⊥).
            ap (entry_fine ws') (a.entry_kept p ne) ∙ entry-carried ws ws' carried (entry_at ws p) (w.each-entry p (omega (arith, a.same_entries))))
            (cases_eq p place);
        each-element = elements-fine w carried a.same_elements a.element_kept;
        unmixed = elements-unmixed w a.same_elements a.element_kept;
        limited = λ s. omega (arith, struck-less place a s, element-sums.0 0 s, w.limited s);
        active = omega (arith, element-sums.1, w.active);
        balanced = same-balance w a.same_categories a.category_kept
            (λ p closed s.
            (element-sums.0 (p + 1) s, struck-elsewhere place a (p + 1) s (elsewhere-not (entry_at ws place).category p unclosed closed)));
      }

  -- an element appended
  pub element-keeps : (r : Element) → SoundFacts ws → ElementAdded ws ws' r → elements ws < most_elements → element_fine ws r ≡ true
      → mixes ws (elements ws) r.category r.code r.kg_per_head ≡ false
      → within_limits (with_element (sums_of ws) r) ≡ true
      → ((p : ℕ) (s : Side) → cond (eqb r.category (p + 1)) (share_of s r) 0 ≡ 0)
      → SoundFacts ws'
  element-keeps r w a room fine alone within none =
      let sums = ap within_limits (element-sums ws ws' r a w.counts.entries_most) ∙ within in
      let carried = carried-over w a.same_categories a.category_kept in
      let entry-sums = entries-kept ws ws' a.same_entries (λ p h. a.entry_kept p (omega (arith, w.counts.entries_most))) in
      let element-more = elements-more ws ws' r a in
      record {
        counts = omega (arith, w.counts, a.same_length, a.same_categories, a.same_entries, a.one_more);
        marked = a.same_mark ∙ w.marked;
        each-category = same-fine w a.same_categories a.category_kept;
        each-entry = λ p h.
            let i : p < entries ws = omega (arith, a.same_entries) in
            ap (entry_fine ws') (a.entry_kept p (omega (arith, w.counts.entries_most))) ∙ entry-carried ws ws' carried (entry_at ws p) (w.each-entry p i);
        each-element = λ p h.
            last (elements ws) p (omega (arith, a.one_more))
            (λ i. ap (element_fine ws') (a.element_kept p (λ e. omega arith)) ∙ element-carried ws ws' carried (element_at ws p) (w.each-element p i))
            (λ e. ap (λ (q : ℕ). element_fine ws' (element_at ws' q)) e ∙ ap (element_fine ws') a.element-new ∙ element-carried ws ws' carried r fine);
        unmixed = λ p h.
            let same : (q : ℕ) → q < elements ws → with_shares (element_at ws' q) 0 0 ≡ with_shares (element_at ws q) 0 0 =
            λ q j. ap (λ (x : Element). with_shares x 0 0) (a.element_kept q (λ e. omega arith)) in
            last (elements ws) p (omega (arith, a.one_more))
            (λ i. mixed-kept ws ws' (elements ws) same p i ∙ w.unmixed p i)
            (λ e.
            ap (mixed ws') e
            ∙ ap (λ (x : Element). mixes ws' (elements ws) x.category x.code x.kg_per_head) a.element-new
            ∙ mixes-kept ws ws' (elements ws) same (elements ws) (omega arith) r.category r.code r.kg_per_head
            ∙ alone);
        limited = limits-limited ws' sums;
        active = (within-parts (sums_of ws') sums).2;
        balanced = same-balance w a.same_categories a.category_kept
            (λ p closed s. (element-more.0 (p + 1) s ∙ rw (none p s, add-zero), entry-sums.1 (p + 1) s));
      }
