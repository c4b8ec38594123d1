-- Every call leaves each share of a closed category less than 3 micrograms from its exact share. Assumes nothing.
use mathlib.Core.Bool.{true, false, not, true≢false}
use mathlib.Core.List.{List}
use mathlib.Core.Logic.{⊎_elim}
use mathlib.Core.Path.{◌≡◌, ◌∙◌, ap, sym, refl}
use Prim.Native.Nat.{ℕ, ◌-◌, ◌≤◌, ◌<◌}
use native.Mathlib.Omega.{arith}
use lib.Dec.{eqb}
use lib.ListN.{length}
use Rattle.std.proofs.lemmas.Bool.{cases_eq, cases_lt}
use Rattle.apportion.specs.Fractions.{Fraction}
use Rattle.apportion.specs.Nearness.{Within}
use borrow.Author.Tests.{not-false}
use Rattle.book_words.specs.Book.{book_length, categories, category_of, entry_at, elements, element_at, is_closed}
use Rattle.book_words.specs.declared.totals.Side.{Side}
use Rattle.book_words.specs.Totals.{share_of}
use Rattle.book_words.specs.Measures.{between}
use Rattle.book_words.specs.Soundness.{sound}
use Rattle.book_words.specs.declared.records.Category.{Category}
use Rattle.book_words.specs.declared.records.Element.{Element}
use Rattle.book_shares.specs.Closing.{close_refusal, close_book}
use Rattle.book_shares.specs.Shares.{closing_share, exact_of}
use Rattle.book.specs.declared.arguments.EnrolArguments.{EnrolArguments}
use Rattle.book.specs.declared.arguments.PostArguments.{PostArguments}
use Rattle.book.specs.declared.arguments.QuoteArguments.{QuoteArguments}
use Rattle.book.specs.Calls.{fresh_book, open_refusal, open_book, post_refusal, post_book, posted_entry, strike_refusal, strike_book}
use Rattle.book.specs.Calls.{enrol_refusal, enrol_book, enrolled_element, quote_refusal, quote_book, quoted_element}
use Rattle.book_words.proofs.Ranges.{between-low, between-high}
use Rattle.book_words.proofs.RecordRules.{element-inside}
use Rattle.book_words.proofs.RecordsAfterWrite.{ElementAdded}
use Rattle.book_words.proofs.SoundRecords.{SoundFacts, sound-facts}
use Rattle.book_shares.proofs.CloseAccepted.{accepted-closing}
use Rattle.book_shares.proofs.CloseWrites.{CategoryClosed}
use Rattle.book.proofs.AcceptedCalls.{opened, posted, struck, enrolled as enrolment-accepted, quoted as quote-accepted}
use Rattle.book.proofs.Laws.{fresh-empty, open-added, post-added, struck-unclosed, strike-struck, enrol-added, quote-added, close-closed, share-near-exact}
use Rattle.conservation.proofs.SameSums.{EntriesUnmoved, ElementsUnmoved, entries-stay, entry_more, entry-less}
use Rattle.conservation.proofs.SameSums.{entries-shared, elements_shared, exact_same}

-- this element's share is less than 3 micrograms from an exact share
abbrev ShareNear : Side → Element → Fraction → Type 0
ShareNear side r exact = Within 3 (share_of side r) exact.numerator exact.denominator

-- from its own, by the sums of the book
abbrev OwnNear : List ℕ → Side → Element → Type 0
OwnNear ws side r = ShareNear side r (exact_of ws r.category side r)

-- every element of a closed category is so near
abbrev pub Near : List ℕ → Type 0
Near ws =
    (p : ℕ) → p < elements ws → ((element_at ws p).category ≡ 0 → ⊥) → is_closed ws (element_at ws p).category ≡ true → (side : Side)
    → OwnNear ws side (element_at ws p)

-- the same share is near to the same exact share
near_same : {n n' : ℕ} {x x' : Fraction} → n' ≡ n → x' ≡ x → Within 3 n x.numerator x.denominator → Within 3 n' x'.numerator x'.denominator
near_same e f h = rw (e, f) h

-- a category that is closed is not one that is open
closed-open : (ws : List ℕ) (category number : ℕ) → is_closed ws category ≡ false → is_closed ws number ≡ true → category ≡ number → ⊥
closed-open ws category number unclosed closed e = true≢false (sym closed ∙ ap (is_closed ws) (sym e) ∙ unclosed)

module _ (ws ws' : List ℕ) where
  -- Of an element of a closed category all is as it was: the element, that its category is closed, and what the category's records add.
  record Held (p : ℕ) : Type 0 where
    pub inside : p < elements ws
    pub same : element_at ws' p ≡ element_at ws p
    pub closed-before : is_closed ws (element_at ws p).category ≡ true
    pub entries-unmoved : EntriesUnmoved ws ws' (element_at ws p).category
    pub elements-unmoved : ElementsUnmoved ws ws' (element_at ws p).category

  -- such an element is as near as it was
  near-held : Near ws → (p : ℕ) → ((element_at ws' p).category ≡ 0 → ⊥) → Held p → (side : Side) → OwnNear ws' side (element_at ws' p)
  near-held near p some k side =
      near_same
      (ap (share_of side) k.same)
      (ap (λ (r : Element). exact_of ws' r.category side r) k.same
      ∙ exact_same ws ws' (element_at ws p).category k.entries-unmoved k.elements-unmoved side (element_at ws p))
      (near p k.inside (λ e. some (ap (λ (r : Element). r.category) k.same ∙ e)) k.closed-before side)

  -- Of the closed categories all is as it was, and any further element is quoted or of an open category.
  record Steady : Type 0 where
    pub carried : (category : ℕ) → (category ≡ 0 → ⊥) → category ≤ categories ws → category_of ws' category ≡ category_of ws category
    pub entries-unmoved : (category : ℕ) → is_closed ws category ≡ true → EntriesUnmoved ws ws' category
    pub no_fewer : elements ws ≤ elements ws'
    pub same : (p : ℕ) → p < elements ws → element_at ws' p ≡ element_at ws p
    pub more-open : (p : ℕ) → elements ws ≤ p → p < elements ws' → ((element_at ws' p).category ≡ 0 → ⊥)
        → ((element_at ws' p).category ≤ categories ws) × (is_closed ws (element_at ws' p).category ≡ false)

  module _ (w : SoundFacts ws) (k : Steady) where
    -- a category is closed as it was
    closed_same : (category : ℕ) → (category ≡ 0 → ⊥) → category ≤ categories ws → is_closed ws' category ≡ is_closed ws category
    closed_same category some high = ap (λ (r : Category). not (eqb r.closed 0)) (k.carried category some high)

    -- the elements of a closed category are unmoved
    elements-unmoved : (category : ℕ) → (category ≡ 0 → ⊥) → is_closed ws category ≡ true → ElementsUnmoved ws ws' category
    elements-unmoved category some closed =
        record {
          no_fewer = k.no_fewer;
          same = λ p h f blind. ap f (k.same p h);
          more_elsewhere = λ p i h e. closed-open ws (element_at ws' p).category category (k.more-open p i h (λ z. some (sym e ∙ z))).1 closed e;
        }

    -- all are as near as they were
    steady-near : Near ws → Near ws'
    steady-near near p h some closed =
        ⊎_elim
        (λ (i : p < elements ws). near-held near p some (held i))
        (λ (i : elements ws ≤ p).
        let m = k.more-open p i h some in
        absurd (true≢false (sym closed ∙ closed_same (element_at ws' p).category some m.0 ∙ m.1)))
        (cases_lt p (elements ws))
      where
        held : p < elements ws → Held p
        held i =
            let of = ap (λ (r : Element). r.category) (k.same p i) in
            let enrolled : (element_at ws p).category ≡ 0 → ⊥ = λ e. some (of ∙ e) in
            let high = element-inside ws (element_at ws p) enrolled (w.each-element p i) in
            let before = sym (closed_same (element_at ws p).category enrolled high) ∙ ap (is_closed ws') (sym of) ∙ closed in
            record {
              inside = i;
              same = k.same p i;
              closed-before = before;
              entries-unmoved = k.entries-unmoved (element_at ws p).category before;
              elements-unmoved = elements-unmoved (element_at ws p).category enrolled before;
            }

  -- the same elements
  still-near : SoundFacts ws → elements ws' ≡ elements ws → ((p : ℕ) → element_at ws' p ≡ element_at ws p)
      → ((category : ℕ) → (category ≡ 0 → ⊥) → category ≤ categories ws → category_of ws' category ≡ category_of ws category)
      → ((category : ℕ) → is_closed ws category ≡ true → EntriesUnmoved ws ws' category)
      → Near ws → Near ws'
  still-near w e same carried unmoved =
      steady-near w
      (record {
        carried = carried;
        entries-unmoved = unmoved;
        no_fewer = omega arith;
        same = λ p h. same p;
        more-open = λ p i h. let z : ⊥ = omega arith in absurd z;
      })

  -- one element more, quoted or of an open category
  element-near : (r : Element) → SoundFacts ws → ElementAdded ws ws' r
      → ((r.category ≡ 0 → ⊥) → (r.category ≤ categories ws) × (is_closed ws r.category ≡ false))
      → Near ws → Near ws'
  element-near r w a unclosed =
      steady-near w
      (record {
        carried = λ category some high. a.category_kept (category - 1) (omega (arith, w.counts.categories_most));
        entries-unmoved = λ category closed. entries-stay ws ws' category a.same_entries (λ p h. a.entry_kept p (omega (arith, w.counts.entries_most)));
        no_fewer = omega (arith, a.one_more);
        same = λ p h. a.element_kept p (λ e. omega arith);
        more-open = λ p i h some.
            let here : p ≡ elements ws = omega (arith, a.one_more) in
            let of = ap (λ (q : ℕ). (element_at ws' q).category) here ∙ ap (λ (x : Element). x.category) a.element-new in
            let m = unclosed (λ e. some (of ∙ e)) in
            (omega (arith, of, m.0), ap (is_closed ws) of ∙ m.1);
      })

  -- a category closed
  module _ (category : ℕ) (share : Side → ℕ → ℕ) (w : SoundFacts ws) (a : CategoryClosed ws ws' category share) where
    -- its own elements: what is near to the exact share by the sums before is near to that by the sums after
    shared-near : (p : ℕ) → p < elements ws → (element_at ws p).category ≡ category → (side : Side)
        → ShareNear side (element_at ws' p) (exact_of ws category side (element_at ws p))
        → OwnNear ws' side (element_at ws' p)
    shared-near p h is side =
        let entry = entries-shared ws ws' category category share w.counts.entries_most a in
        near_same refl
        (ap (λ (r : Element). exact_of ws' r.category side r) (a.element_shared p h is)
        ∙ ap (λ (number : ℕ). exact_of ws' number side (element_at ws p)) is
        ∙ exact_same ws ws' category entry (elements_shared ws ws' category category share a) side (element_at ws p))

    -- the elements of other closed categories are held
    other-held : 1 ≤ category → (p : ℕ) → p < elements ws → ((element_at ws p).category ≡ category → ⊥) → ((element_at ws' p).category ≡ 0 → ⊥)
        → is_closed ws' (element_at ws' p).category ≡ true → Held p
    other-held low p h other some closed =
        let number = (element_at ws p).category in
        let same = a.element_kept p other in
        let of = ap (λ (r : Element). r.category) same in
        let enrolled : number ≡ 0 → ⊥ = λ z. some (of ∙ z) in
        let high = element-inside ws (element_at ws p) enrolled (w.each-element p h) in
        let kept = a.category_kept (number - 1) (omega (arith, w.counts.categories_most)) (λ z. other (omega (arith, enrolled))) in
        record {
          inside = h;
          same = same;
          closed-before = ap (λ (r : Category). not (eqb r.closed 0)) (sym kept) ∙ ap (is_closed ws') (sym of) ∙ closed;
          entries-unmoved = entries-shared ws ws' number category share w.counts.entries_most a;
          elements-unmoved = elements_shared ws ws' number category share a;
        }

-- A fresh book has no elements.
pub near-fresh : (ws : List ℕ) → book_length ≤ length ws → Near (fresh_book ws)
near-fresh ws h p i = let z : ⊥ = omega (arith, (fresh-empty ws h).2) in absurd z

-- An accepted open adds an open category.
pub near-open : (ws : List ℕ) (kind : ℕ) → open_refusal ws kind ≡ 0 → Near ws → Near (open_book ws kind)
near-open ws kind e =
    let a = open-added ws kind e in
    still-near ws (open_book ws kind) (sound-facts ws (not-false (sound ws) (opened ws kind e 1))) a.same_elements a.element_kept
    (λ category some high. a.category_kept (category - 1) (λ z. some (omega arith)))
    (λ category closed. entries-stay ws (open_book ws kind) category a.same_entries (λ p h. a.entry_kept p))

-- An accepted post adds an entry of an open category.
pub near_post : (ws : List ℕ) (p : PostArguments) → post_refusal ws p ≡ 0 → Near ws → Near (post_book ws p)
near_post ws p e =
    let w = sound-facts ws (not-false (sound ws) (posted ws p e 1)) in
    let a = post-added ws p e in
    still-near ws (post_book ws p) w a.same_elements a.element_kept
    (λ number some high. a.category_kept (number - 1) (omega (arith, w.counts.categories_most)))
    (λ number closed. entry_more ws (post_book ws p) number (posted_entry p) a (closed-open ws p.category number (posted ws p e 4) closed))

-- An accepted strike marks an entry of an open category.
pub near-strike : (ws : List ℕ) (entry : ℕ) → strike_refusal ws entry ≡ 0 → Near ws → Near (strike_book ws entry)
near-strike ws entry e =
    let w = sound-facts ws (not-false (sound ws) (struck ws entry e 1)) in
    let a = strike-struck ws entry e in
    let unclosed = struck-unclosed ws entry e in
    still-near ws (strike_book ws entry) w a.same_elements a.element_kept
    (λ number some high. a.category_kept (number - 1) (omega (arith, w.counts.categories_most)))
    (λ number closed.
    entry-less ws (strike_book ws entry) number (entry - 1) a (closed-open ws (entry_at ws (entry - 1)).category number unclosed closed))

-- An accepted enrolment adds an element of an open category.
pub near-enrol : (ws : List ℕ) (enrolment : EnrolArguments) → enrol_refusal ws enrolment ≡ 0 → Near ws → Near (enrol_book ws enrolment)
near-enrol ws enrolment e =
    let none = enrolment-accepted ws enrolment e in
    let category = enrolment.category in
    element-near ws (enrol_book ws enrolment) (enrolled_element (category_of ws category) enrolment) (sound-facts ws (not-false (sound ws) (none 1)))
    (enrol-added ws enrolment e)
    (λ some. (between-high 1 (categories ws) category (not-false (between 1 (categories ws) category) (none 2)), none 4))

-- An accepted quote adds an element of no category.
pub near-quote : (ws : List ℕ) (q : QuoteArguments) → quote_refusal ws q ≡ 0 → Near ws → Near (quote_book ws q)
near-quote ws q e =
    element-near ws (quote_book ws q) (quoted_element q) (sound-facts ws (not-false (sound ws) (quote-accepted ws q e 1)))
    (quote-added ws q e) (λ some. absurd (some refl))

-- An accepted closing gives its category such shares, and leaves the other categories theirs.
pub near-close : (ws : List ℕ) (category : ℕ) → close_refusal ws category ≡ 0 → Near ws → Near (close_book ws category)
near-close ws category e near p h some closed side =
    let new = close_book ws category in
    let share = closing_share ws category in
    let ok = accepted-closing ws category e in
    let w = sound-facts ws ok.fine in
    let a = close-closed ws category e in
    let i : p < elements ws = omega (arith, a.same_elements) in
    ⊎_elim
    (λ (is : (element_at ws p).category ≡ category). shared-near ws new category share w a p i is side (share-near-exact ws category e side p i is))
    (λ (other : (element_at ws p).category ≡ category → ⊥).
    let held = other-held ws new category share w a (between-low 1 (categories ws) category ok.numbered) p i other some closed in
    near-held ws new near p some held side)
    (cases_eq (element_at ws p).category category)
