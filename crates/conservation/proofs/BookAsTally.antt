-- The book read as a tally: after each call the tally that was fed it is the book's. Assumes nothing.
use mathlib.Core.Bool.{not, cond, false}
use mathlib.Core.List.{List}
use mathlib.Core.Logic.{⊎_elim}
use mathlib.Core.Option.{some}
use mathlib.Core.Path.{◌≡◌, refl, sym, ap, ◌∙◌}
use Prim.Native.Nat.{ℕ, zero, suc, ◌+◌, ◌-◌, ◌≤◌, ◌<◌}
use native.Mathlib.Omega.{arith}
use lib.Dec.{eqb}
use lib.ListN.{length}
use borrow.Author.Tests.{ne_eqb, not-false}
use Rattle.std.proofs.lemmas.Bool.{cases_eq}
use Rattle.book_words.specs.Book.{book_length, categories, most_categories, category_at, category_of, entries, entry_at, elements, element_at, is_closed}
use Rattle.book_words.specs.declared.totals.Side.TheVariants.{Operation as operation, Provision as provision}
use Rattle.book_words.specs.Measures.{between}
use Rattle.book_words.specs.Inner.Steps.{CountsWithin}
use Rattle.book_words.specs.Soundness.{sound}
use Rattle.book_words.specs.declared.records.Category.{Category}
use Rattle.book_words.specs.declared.records.Element.{Element}
use Rattle.book_words.specs.declared.records.Entry.{Entry}
use Rattle.book_shares.specs.Closing.{close_refusal, close_book}
use Rattle.book_shares.specs.Shares.{closing_share}
use Rattle.book.specs.declared.arguments.EnrolArguments.{EnrolArguments}
use Rattle.book.specs.declared.arguments.PostArguments.{PostArguments}
use Rattle.book.specs.declared.arguments.QuoteArguments.{QuoteArguments}
use Rattle.book.specs.Calls.{fresh_book, open_refusal, open_reply, open_book, post_refusal, post_reply, post_book, strike_refusal, strike_book}
use Rattle.book.specs.Lines.{line_post, line_reply, line_book}
use Rattle.book.specs.Calls.{enrolled_element, enrol_refusal, enrol_reply, enrol_book, quoted_element, quote_refusal, quote_reply, quote_book}
use Rattle.book_words.proofs.SoundTests.{sound-counted}
use Rattle.book_words.proofs.Ranges.{between-low, between-high}
use Rattle.book_words.proofs.RecordsAfterWrite.{ElementAdded}
use Rattle.book_shares.proofs.CloseAccepted.{accepted-closing}
use Rattle.book_shares.proofs.CloseWrites.{with_shares}
use Rattle.book.proofs.AcceptedCalls.{posted, struck, enrolled as enrolment-accepted, quoted as quote-accepted}
use Rattle.book.proofs.Laws.{fresh-empty, open-refused, open-added, post-refused, post-added, strike-refused, strike-struck}
use Rattle.book.proofs.Laws.{line-posted, line_refused}
use Rattle.book.proofs.Laws.{enrol-refused, enrol-added, quote-refused, quote-added, close-refused, close-closed}
use Rattle.conservation.specs.declared.Call.{Call}
use Rattle.conservation.specs.declared.Call.TheVariants.{Open, Post, Line, Strike, Enrol, Quote, Close}
use Rattle.conservation.specs.Runs.{step}
use Rattle.conservation.specs.Tally.{TallyCategory, TallyEntry, Enrolment, Quotation, TallyElement, enrolled, quoted, Tally, empty_tally}
use Rattle.conservation.specs.Tally.{numbered, kind_of, closed_of, closed_in, tally_open, tally_post, mark_struck, tally_strike, tally_add}
use Rattle.conservation.specs.Tally.{tally_enrol, tally_quote, mark_closed, tally_close, tallied, feed}
use Rattle.conservation.proofs.TallyLists.{listing, listing-same, listing-more, numbered-at, changed-number}

-- a category of the book as the tally has it
abbrev read_category : Category → TallyCategory
read_category r = record { kind = r.kind; closed = not (eqb r.closed 0) }

-- an entry, likewise
abbrev pub read_entry : Entry → TallyEntry
read_entry r =
    record {
      category = r.category;
      group = r.group;
      operation = r.operation;
      provision = r.provision;
      struck = not (eqb r.struck 0);
    }

-- an element of a category, without its shares
abbrev pub enrolment_of : Element → Enrolment
enrolment_of r =
    record {
      arguments = record {
        category = r.category;
        chain = r.chain;
        code = r.code;
        amount = r.amount;
        distance = r.distance;
        kg_per_head = r.kg_per_head;
      };
      activity = r.activity;
    }

-- a quoted element
abbrev pub quotation_of : Element → Quotation
quotation_of r = record { chain = r.chain; operation = r.operation; provision = r.provision }

-- an element is quoted where its category is 0
abbrev pub read_element : Element → TallyElement
read_element r = cond (eqb r.category 0) (quoted (quotation_of r)) (enrolled (enrolment_of r))

-- the records at a place of the book, likewise
abbrev category_read : List ℕ → ℕ → TallyCategory
category_read ws p = read_category (category_at ws p)

abbrev entry_read : List ℕ → ℕ → TallyEntry
entry_read ws p = read_entry (entry_at ws p)

abbrev element_read : List ℕ → ℕ → TallyElement
element_read ws p = read_element (element_at ws p)

-- the tally that the records of the book, as many as it counts, make up
unfoldable pub tally_of : List ℕ → Tally
tally_of ws =
    record {
      categories = listing (categories ws) (category_read ws);
      entries = listing (entries ws) (entry_read ws);
      elements = listing (elements ws) (element_read ws);
    }

-- tallies with the same three lists are the same
tally-same : {c c' : List TallyCategory} {n n' : List TallyEntry} {l l' : List TallyElement} → c ≡ c' → n ≡ n' → l ≡ l'
    → ◌≡◌ {A = Tally} (record { categories = c; entries = n; elements = l }) (record { categories = c'; entries = n'; elements = l' })
tally-same a b d = rw (a, b, d)

module _ (ws : List ℕ) where
  -- the category of a number that is there
  category-read : (category : ℕ) → 1 ≤ category → category ≤ categories ws
      → numbered (tally_of ws).categories category ≡ some (read_category (category_of ws category))
  unfolding tally_of
  category-read category low high =
      let back : category ≡ category - 1 + 1 = omega arith in
      ap (numbered (tally_of ws).categories) back ∙ numbered-at (categories ws) (category_read ws) (category - 1) (omega arith)

  -- a category's closed mark, read from the book
  pub closed-read : (category : ℕ) → 1 ≤ category → category ≤ categories ws → closed_in (tally_of ws) category ≡ is_closed ws category
  unfolding closed_in
  closed-read category low high = ap closed_of (category-read category low high)

  -- a category's kind, read from the book
  kind-read : (category : ℕ) → 1 ≤ category → category ≤ categories ws → kind_of (numbered (tally_of ws).categories category) ≡ (category_of ws category).kind
  kind-read category low high = ap kind_of (category-read category low high)

module _ (ws ws' : List ℕ) where
  -- records that are the same in two books are read the same
  categories-same : CountsWithin ws → categories ws' ≡ categories ws → ((p : ℕ) → p < most_categories → category_at ws' p ≡ category_at ws p)
      → (tally_of ws).categories ≡ (tally_of ws').categories
  unfolding tally_of
  categories-same counts e same =
      listing-same (categories ws) (categories ws') (category_read ws) (category_read ws') e (λ p h. ap read_category (same p (omega (arith, counts))))

  entries-same : entries ws' ≡ entries ws → ((p : ℕ) → p < entries ws → entry_at ws' p ≡ entry_at ws p) → (tally_of ws).entries ≡ (tally_of ws').entries
  unfolding tally_of
  entries-same e same = listing-same (entries ws) (entries ws') (entry_read ws) (entry_read ws') e (λ p h. ap read_entry (same p h))

  elements_same : elements ws' ≡ elements ws → ((p : ℕ) → p < elements ws → element_read ws' p ≡ element_read ws p)
      → (tally_of ws).elements ≡ (tally_of ws').elements
  unfolding tally_of
  elements_same e same = listing-same (elements ws) (elements ws') (element_read ws) (element_read ws') e same

  -- one element more is read as one more
  element-read : (r : Element) → CountsWithin ws → ElementAdded ws ws' r → tally_add (tally_of ws) (read_element r) ≡ tally_of ws'
  unfolding tally_of
  element-read r counts a =
      tally-same
      (categories-same counts a.same_categories a.category_kept)
      (entries-same a.same_entries (λ p h. a.entry_kept p (omega (arith, counts))))
      (listing-more (elements ws) (elements ws') (element_read ws) (element_read ws') (read_element r) a.one_more
      (λ p h. ap read_element (a.element_kept p (λ z. omega arith))) (ap read_element a.element-new))

-- an element of a category is read as an enrolment
enrolment-read : (r : Element) → (r.category ≡ 0 → ⊥) → read_element r ≡ enrolled (enrolment_of r)
enrolment-read r ne = rw (ne_eqb r.category 0 ne)

module _ (ws : List ℕ) where
  -- a fresh book is read as the empty tally
  pub fresh-read : book_length ≤ length ws → tally_of (fresh_book ws) ≡ empty_tally
  unfolding tally_of
  fresh-read h =
      let none = fresh-empty ws h in
      rw (none.0, none.1, none.2)

  -- an accepted open feeds the tally what it writes in the book
  open-read : (kind : ℕ) → open_refusal ws kind ≡ 0 → tally_open (tally_of ws) kind ≡ tally_of (open_book ws kind)
  unfolding tally_of
  open-read kind e =
      let a = open-added ws kind e in
      let ws' = open_book ws kind in
      tally-same
      (listing-more (categories ws) (categories ws') (category_read ws) (category_read ws') (record { kind = kind; closed = false }) a.one_more
      (λ p h. ap read_category (a.category_kept p (λ z. omega arith))) (ap read_category a.category-new))
      (entries-same ws ws' a.same_entries (λ p h. a.entry_kept p))
      (elements_same ws ws' a.same_elements (λ p h. ap read_element (a.element_kept p)))

  -- so does an accepted post
  post_read : (p : PostArguments) → post_refusal ws p ≡ 0 → tally_post (tally_of ws) p ≡ tally_of (post_book ws p)
  unfolding tally_of
  post_read p e =
      let a = post-added ws p e in
      let counts = sound-counted ws (not-false (sound ws) (posted ws p e 1)) in
      let ws' = post_book ws p in
      tally-same
      (categories-same ws ws' counts a.same_categories a.category_kept)
      (listing-more (entries ws) (entries ws') (entry_read ws) (entry_read ws') _ a.one_more
      (λ p h. ap read_entry (a.entry_kept p (λ z. omega arith))) (ap read_entry a.entry_new))
      (elements_same ws ws' a.same_elements (λ p h. ap read_element (a.element_kept p)))

  -- so does an accepted strike
  strike-read : (entry : ℕ) → strike_refusal ws entry ≡ 0 → tally_strike (tally_of ws) entry ≡ tally_of (strike_book ws entry)
  unfolding tally_of
  strike-read entry e =
      let a = strike-struck ws entry e in
      let counts = sound-counted ws (not-false (sound ws) (struck ws entry e 1)) in
      let there = not-false (between 1 (entries ws) entry) (struck ws entry e 2) in
      let ws' = strike_book ws entry in
      tally-same
      (categories-same ws ws' counts a.same_categories a.category_kept)
      (changed-number mark_struck (entries ws) (entries ws') entry (entry_read ws) (entry_read ws') a.same_entries
      (between-low 1 (entries ws) entry there) (between-high 1 (entries ws) entry there)
      (ap read_entry a.entry-struck) (λ q h ne. ap read_entry (a.entry_kept q ne)))
      (elements_same ws ws' a.same_elements (λ p h. ap read_element (a.element_kept p)))

  -- so does an accepted enrolment, whose kind is read from the book
  enrol-read : (enrolment : EnrolArguments) → enrol_refusal ws enrolment ≡ 0 → tally_enrol (tally_of ws) enrolment ≡ tally_of (enrol_book ws enrolment)
  enrol-read enrolment e =
      let none = enrolment-accepted ws enrolment e in
      let category = enrolment.category in
      let there = not-false (between 1 (categories ws) category) (none 2) in
      let low = between-low 1 (categories ws) category there in
      let r = enrolled_element (category_of ws category) enrolment in
      rw (kind-read ws category low (between-high 1 (categories ws) category there), ← enrolment-read r (λ z. omega arith))
      (element-read ws (enrol_book ws enrolment) r (sound-counted ws (not-false (sound ws) (none 1))) (enrol-added ws enrolment e))

  -- so does an accepted quote
  quote-read : (q : QuoteArguments) → quote_refusal ws q ≡ 0 → tally_quote (tally_of ws) q ≡ tally_of (quote_book ws q)
  quote-read q e =
      element-read ws (quote_book ws q) (quoted_element q) (sound-counted ws (not-false (sound ws) (quote-accepted ws q e 1))) (quote-added ws q e)

  -- so does an accepted closing: the shares that it writes are not read
  close-read : (category : ℕ) → close_refusal ws category ≡ 0 → tally_close (tally_of ws) category ≡ tally_of (close_book ws category)
  unfolding tally_of
  close-read category e =
      let a = close-closed ws category e in
      let ok = accepted-closing ws category e in
      let counts = sound-counted ws ok.fine in
      let low = between-low 1 (categories ws) category ok.numbered in
      let ws' = close_book ws category in
      tally-same
      (changed-number mark_closed (categories ws) (categories ws') category (category_read ws) (category_read ws') a.same_categories
      low (between-high 1 (categories ws) category ok.numbered)
      (ap read_category a.category_closed) (λ q h ne. ap read_category (a.category_kept q (omega (arith, counts)) ne)))
      (entries-same ws ws' a.same_entries (λ p h. a.entry_kept p (omega (arith, counts))))
      (elements_same ws ws' a.same_elements
      (λ p h.
      ⊎_elim
      (λ (is : (element_at ws p).category ≡ category).
      let some-category : (element_at ws p).category ≡ 0 → ⊥ = λ z. omega arith in
      ap read_element (a.element_shared p h is)
      ∙ enrolment-read (with_shares (element_at ws p) (closing_share ws category operation p) (closing_share ws category provision p)) some-category
      ∙ sym (enrolment-read (element_at ws p) some-category))
      (λ (other : (element_at ws p).category ≡ category → ⊥). ap read_element (a.element_kept p other))
      (cases_eq (element_at ws p).category category)))

-- an accepted call gives the new tally, a refused one leaves it with the book
feed-read : (ws ws' : List ℕ) (call : Call) (refusal : ℕ) → (refusal ≡ 0 → tallied (tally_of ws) call ≡ tally_of ws') → ((refusal ≡ 0 → ⊥) → ws' ≡ ws)
    → feed (tally_of ws) call refusal ≡ tally_of ws'
feed-read ws ws' call zero new old = new refl
feed-read ws ws' call (suc n) new old = ap tally_of (sym (old (λ z. omega arith)))

-- after a call, accepted or refused, the tally that was fed it is the book's
pub step-read : (ws : List ℕ) (call : Call) → feed (tally_of ws) call (step ws call).reply.refusal ≡ tally_of (step ws call).book
unfolding open_reply post_reply enrol_reply quote_reply
step-read ws (Open kind) = feed-read ws (open_book ws kind) (Open kind) (open_refusal ws kind) (open-read ws kind) (open-refused ws kind)
step-read ws (Post p) = feed-read ws (post_book ws p) (Post p) (post_refusal ws p) (post_read ws p) (post-refused ws p)
step-read ws (Line l) =
    feed-read ws (line_book ws l) (Line l) (line_reply ws l).refusal
    (λ e. let posted = line-posted ws l e in post_read ws (line_post l) posted.0 ∙ ap tally_of (sym posted.1))
    (line_refused ws l)
step-read ws (Strike entry) = feed-read ws (strike_book ws entry) (Strike entry) (strike_refusal ws entry) (strike-read ws entry) (strike-refused ws entry)
step-read ws (Enrol e) = feed-read ws (enrol_book ws e) (Enrol e) (enrol_refusal ws e) (enrol-read ws e) (enrol-refused ws e)
step-read ws (Quote q) = feed-read ws (quote_book ws q) (Quote q) (quote_refusal ws q) (quote-read ws q) (quote-refused ws q)
step-read ws (Close category) =
    feed-read ws (close_book ws category) (Close category) (close_refusal ws category) (close-read ws category) (close-refused ws category)
