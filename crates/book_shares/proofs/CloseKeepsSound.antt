-- A closing leaves a sound book sound. Assumes nothing.
use mathlib.Core.Bool.{true, cond, ◌&&◌, not}
use mathlib.Core.List.{List}
use mathlib.Core.Logic.{⊎_elim}
use mathlib.Core.Path.{◌≡◌, sym, ◌∙◌, ap, refl}
use Prim.Native.Nat.{ℕ, ◌≤◌, ◌<◌, ◌-◌, ◌+◌}
use native.Mathlib.Nat.{eq-zero-or-pos}
use native.Mathlib.Omega.{arith}
use lib.Dec.{leb, eqb}
use borrow.Author.Tests.{ne_eqb}
use Rattle.std.proofs.lemmas.Bool.{and_from, and_parts, cases_eq}
use Rattle.apportion.specs.Places.{sum_below}
use Rattle.book_words.specs.Book.{categories, category_at, category_of, entries, entry_at, elements, element_at}
use Rattle.book_words.specs.Measures.{standard_activity, between, is_kind, is_chain, is_code, unsuited}
use Rattle.book_words.specs.Soundness.{category_fine, entry_fine, entry_suits, element_fine, element_suits, measured, shares_wait}
use Rattle.book_words.specs.declared.totals.Side.{Side}
use Rattle.book_words.specs.declared.totals.Side.TheVariants.{Operation as operation, Provision as provision}
use Rattle.book_words.specs.Totals.{shares_of, share_of, unstruck_of, activities}
use Rattle.book_words.specs.declared.records.Category.{Category}
use Rattle.book_words.specs.declared.records.Element.{Element}
use Rattle.book_words.specs.declared.records.Entry.{Entry}
use Rattle.apportion.proofs.Sums.{sum-cong}
use Rattle.book_words.proofs.SameRecords.{entries-kept}
use Rattle.book_words.proofs.Ranges.{between-low, between-high}
use Rattle.book_words.proofs.RecordRules.{entry-inside, entry-numbered, element-quoted, element-inside, element-numbered}
use Rattle.book_words.proofs.Passengers.{mixed-kept}
use Rattle.book_words.proofs.SoundRecords.{SoundFacts}
use Rattle.book_shares.proofs.CloseWrites.{CategoryClosed, with_shares, closed_category}

-- a category that kept the rules keeps them when it is closed
closed-fine : (k : Category) → category_fine k ≡ true → category_fine (closed_category k) ≡ true
unfolding category_fine
closed-fine k e = and_from (is_kind k.kind) true (and_parts (is_kind k.kind) (leb k.closed 1) e).0 refl

-- an entry suits the same kind, and an element of a closed category has any shares
entry-suits-kind : (k k' : Category) (r : Entry) → k'.kind ≡ k.kind → entry_suits k' r ≡ entry_suits k r
unfolding entry_suits
entry-suits-kind k k' r e = rw e

shared-suits : (k : Category) (r : Element) (a b : ℕ) → element_suits k r ≡ true → element_suits (closed_category k) (with_shares r a b) ≡ true
unfolding element_suits measured
shared-suits k r a b e =
    let rules = is_chain r.chain && is_code r.code && not (unsuited k.kind r.code) && measured k.kind r in
    and_from rules true (and_parts rules (shares_wait k r) e).0 refl

-- what an element of this category adds to the category of this number
abbrev in_category : ℕ → ℕ → ℕ → ℕ
in_category number category n = cond (eqb category number) n 0

in-other : (number category n : ℕ) → (category ≡ number → ⊥) → in_category number category n ≡ 0
in-other number category n ne = rw (ne_eqb category number ne)

module _ (ws ws' : List ℕ) (category : ℕ) (share : Side → ℕ → ℕ) where
  module _ (a : CategoryClosed ws ws' category share) where
    -- what does not look at the shares is kept
    pub measure-kept : {A : Type 0} (f : Element → A) → ((r : Element) (x y : ℕ) → f (with_shares r x y) ≡ f r) → (p : ℕ) → p < elements ws
        → f (element_at ws' p) ≡ f (element_at ws p)
    measure-kept f blind p h =
        ⊎_elim
        (λ (e : (element_at ws p).category ≡ category). ap f (a.element_shared p h e) ∙ blind (element_at ws p) (share operation p) (share provision p))
        (λ (ne : (element_at ws p).category ≡ category → ⊥). ap f (a.element_kept p ne))
        (cases_eq (element_at ws p).category category)

    activities-kept : activities ws' ≡ activities ws
    unfolding activities standard_activity
    activities-kept =
        rw a.same_elements
        (sum-cong (elements ws) (λ p. standard_activity (element_at ws' p)) (λ p. standard_activity (element_at ws p))
        (measure-kept standard_activity (λ r x y. refl)))

    -- the shares in the other categories are as before, and in this one they are those written
    pub shares-elsewhere : (k : ℕ) (s : Side) → (k ≡ category → ⊥) → shares_of ws' k s ≡ shares_of ws k s
    unfolding shares_of
    shares-elsewhere k s other =
        rw a.same_elements
        (sum-cong (elements ws)
        (λ p. in_category k (element_at ws' p).category (share_of s (element_at ws' p)))
        (λ p. in_category k (element_at ws p).category (share_of s (element_at ws p)))
        (λ p h.
        ⊎_elim
        (λ (e : (element_at ws p).category ≡ category).
        let away : (element_at ws p).category ≡ k → ⊥ = λ z. other (sym z ∙ e) in
        ap (λ (r : Element). in_category k r.category (share_of s r)) (a.element_shared p h e)
        ∙ in-other k (element_at ws p).category (share_of s (with_shares (element_at ws p) (share operation p) (share provision p))) away
        ∙ sym (in-other k (element_at ws p).category (share_of s (element_at ws p)) away))
        (λ (ne : (element_at ws p).category ≡ category → ⊥). ap (λ (r : Element). in_category k r.category (share_of s r)) (a.element_kept p ne))
        (cases_eq (element_at ws p).category category)))

    pub shares-written : (s : Side) → shares_of ws' category s ≡ sum_below (elements ws) (λ p. cond (eqb (element_at ws p).category category) (share s p) 0)
    unfolding shares_of
    shares-written s =
        rw a.same_elements
        (sum-cong (elements ws)
        (λ p. in_category category (element_at ws' p).category (share_of s (element_at ws' p)))
        (λ p. in_category category (element_at ws p).category (share s p))
        (λ p h.
        ⊎_elim
        (λ (e : (element_at ws p).category ≡ category).
        ap (λ (r : Element). in_category category r.category (share_of s r)) (a.element_shared p h e)
        ∙ ap (in_category category (element_at ws p).category) (of-side s (element_at ws p) p))
        (λ (ne : (element_at ws p).category ≡ category → ⊥).
        ap (λ (r : Element). in_category category r.category (share_of s r)) (a.element_kept p ne)
        ∙ in-other category (element_at ws p).category (share_of s (element_at ws p)) ne
        ∙ sym (in-other category (element_at ws p).category (share s p) ne))
        (cases_eq (element_at ws p).category category)))
      where
        of-side : (s : Side) (r : Element) (p : ℕ) → share_of s (with_shares r (share operation p) (share provision p)) ≡ share s p
        of-side operation r p = refl
        of-side provision r p = refl

  module _ (w : SoundFacts ws) (a : CategoryClosed ws ws' category share) where
    -- the kinds are the same
    kind-kept : (p : ℕ) → p < categories ws → (category_at ws' p).kind ≡ (category_at ws p).kind
    kind-kept p h =
        ⊎_elim
        (λ (e : p ≡ category - 1).
        ap (λ (q : ℕ). (category_at ws' q).kind) e ∙ ap (λ (x : Category). x.kind) a.category_closed ∙ ap (λ (q : ℕ). (category_at ws q).kind) (sym e))
        (λ (ne : p ≡ category - 1 → ⊥). ap (λ (x : Category). x.kind) (a.category_kept p (omega (arith, w.counts.categories_most)) ne))
        (cases_eq p (category - 1))

    category-keeps : (p : ℕ) → p < categories ws → category_fine (category_at ws' p) ≡ true
    category-keeps p h =
        ⊎_elim
        (λ (e : p ≡ category - 1).
        ap (λ (q : ℕ). category_fine (category_at ws' q)) e
        ∙ ap category_fine a.category_closed
        ∙ closed-fine (category_at ws (category - 1)) (w.each-category (category - 1) (omega arith)))
        (λ (ne : p ≡ category - 1 → ⊥). ap category_fine (a.category_kept p (omega (arith, w.counts.categories_most)) ne) ∙ w.each-category p h)
        (cases_eq p (category - 1))

    entry-keeps : (r : Entry) → entry_fine ws r ≡ true → entry_fine ws' r ≡ true
    entry-keeps r e =
        let inside = entry-inside ws r e in
        let low = between-low 1 (categories ws) r.category inside in
        let high = between-high 1 (categories ws) r.category inside in
        sym (entry-numbered ws' r (ap (λ (n : ℕ). between 1 n r.category) a.same_categories ∙ inside))
        ∙ entry-suits-kind (category_of ws r.category) (category_of ws' r.category) r (kind-kept (r.category - 1) (omega arith))
        ∙ entry-numbered ws r inside
        ∙ e

    element-keeps : 1 ≤ category → category ≤ categories ws → (p : ℕ) → p < elements ws → element_fine ws (element_at ws p) ≡ true
        → element_fine ws' (element_at ws' p) ≡ true
    element-keeps low high p h fine =
        let r = element_at ws p in
        ⊎_elim
        (λ (e : r.category ≡ category).
        let enrolled : r.category ≡ 0 → ⊥ = λ z. omega arith in
        let r' = with_shares r (share operation p) (share provision p) in
        ap (element_fine ws') (a.element_shared p h e)
        ∙ sym (element-numbered ws' r' enrolled (omega (arith, a.same_categories)))
        ∙ ap (λ (number : ℕ). element_suits (category_of ws' number) r') e
        ∙ ap (λ (k : Category). element_suits k r') a.category_closed
        ∙ shared-suits (category_of ws category) r (share operation p) (share provision p)
        (ap (λ (number : ℕ). element_suits (category_of ws number) r) (sym e) ∙ element-numbered ws r enrolled (omega arith) ∙ fine))
        (λ (ne : r.category ≡ category → ⊥).
        ap (element_fine ws') (a.element_kept p ne)
        ∙ ⊎_elim
        (λ (none : r.category ≡ 0). sym (element-quoted ws' r none) ∙ element-quoted ws r none ∙ fine)
        (λ (some : 0 < r.category).
        let enrolled : r.category ≡ 0 → ⊥ = λ z. omega arith in
        let inside = element-inside ws r enrolled fine in
        sym (element-numbered ws' r enrolled (omega (arith, a.same_categories)))
        ∙ ap (λ (k : Category). element_suits k r) (a.category_kept (r.category - 1) (omega (arith, w.counts.categories_most)) (λ z. ne (omega arith)))
        ∙ element-numbered ws r enrolled inside
        ∙ fine)
        (eq-zero-or-pos r.category))
        (cases_eq r.category category)

    pub close-keeps : 1 ≤ category → category ≤ categories ws
        → ((s : Side) → sum_below (elements ws) (λ p. cond (eqb (element_at ws p).category category) (share s p) 0) ≡ unstruck_of ws category s)
        → SoundFacts ws'
    close-keeps low high balance =
        let entry-sums = entries-kept ws ws' a.same_entries (λ p h. a.entry_kept p (omega (arith, w.counts.entries_most))) in
        record {
          counts = omega (arith, a.same_length, a.same_categories, a.same_entries, a.same_elements, w.counts);
          marked = a.same_mark ∙ w.marked;
          each-category = λ p h. category-keeps p (omega (arith, a.same_categories));
          each-entry = λ p h.
              let i : p < entries ws = omega (arith, a.same_entries) in
              ap (entry_fine ws') (a.entry_kept p (omega (arith, w.counts.entries_most))) ∙ entry-keeps (entry_at ws p) (w.each-entry p i);
          each-element = λ p h.
              let i : p < elements ws = omega (arith, a.same_elements) in
              element-keeps low high p i (w.each-element p i);
          unmixed = λ p h.
              let i : p < elements ws = omega (arith, a.same_elements) in
              mixed-kept ws ws' (elements ws) (measure-kept a (λ r. with_shares r 0 0) (λ r x y. refl)) p i ∙ w.unmixed p i;
          limited = λ s. omega (arith, entry-sums.0 s, shares-elsewhere a 0 s (λ z. omega arith), w.limited s);
          active = omega (arith, activities-kept a, w.active);
          balanced = λ p h closed s.
              let i : p < categories ws = omega (arith, a.same_categories) in
              ⊎_elim
              (λ (e : p + 1 ≡ category). rw e (shares-written a s ∙ balance s ∙ sym (entry-sums.1 category s)))
              (λ (ne : p + 1 ≡ category → ⊥).
              let same = a.category_kept p (omega (arith, w.counts.categories_most)) (λ z. ne (omega arith)) in
              shares-elsewhere a (p + 1) s ne
              ∙ w.balanced p i (λ z. closed (ap (λ (x : Category). x.closed) same ∙ z)) s
              ∙ sym (entry-sums.1 (p + 1) s))
              (cases_eq (p + 1) category);
        }
