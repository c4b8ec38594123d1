-- The laws of the calls for the crates above; those of close are proved in `book_shares` and handed on. Of each call that writes:
-- what an accepted one changes, and that it keeps all else (`Fresh`; `CategoryAdded`, `EntryAdded`, `EntryStruck`, `ElementAdded` of
-- `RecordsAfterWrite` of `book_words`; `CategoryClosed` of `CloseWrites` of `book_shares`); that a refused one leaves the list as it
-- was; that either leaves a sound book sound; of an opening and a closing, that they leave the sums of ground 10 as they are. Of a
-- statement: the walk that it is made by, and what it answers for an unused chain; it and the class total are within the limits of a book.
-- Assumes nothing.
use mathlib.Core.Bool.{true, false, cond, not, ◌&&◌}
use mathlib.Core.List.{List}
use mathlib.Core.Logic.{⊎_elim}
use mathlib.Core.Path.{◌≡◌, ◌∙◌, ap, refl, sym}
use Prim.Native.Nat.{ℕ, ◌-◌, ◌<◌, ◌≤◌, ◌+◌}
use native.Mathlib.Omega.{arith}
use lib.Dec.{eqb}
use lib.ListN.{length, length-set, get_or-append, drop}
use lib.Seq.{get_or-set_same, get_or-set_other}
use borrow.Author.Tests.{le-leb, le-ltb, lt-ltb, ne_eqb, leb-false, not-false}
use Rattle.std.proofs.lemmas.Bool.{and_from, and_parts}
use Rattle.apportion.specs.Places.{at, list_below, one_if}
use Rattle.book_words.specs.Book.{mark, book_length, categories, most_categories, entries, most_entries, elements, most_elements}
use Rattle.book_words.specs.Book.{category_of, entry_at, element_at, is_closed}
use Rattle.book_words.specs.Measures.{between, is_kind, is_group, is_chain, is_code, is_adjust}
use Rattle.book_words.specs.Soundness.{sound, category_fine, element_fine}
use Rattle.book_words.specs.declared.totals.Side.{Side}
use Rattle.book_words.specs.declared.totals.Side.TheVariants.{Operation as operation, Provision as provision}
use Rattle.book_words.specs.Totals.{all_unstruck, shares_of, activities, share_of, sums_of, with_entry, with_element, within_limits}
use Rattle.book_words.specs.declared.records.Element.{Element}
use Rattle.book_shares.specs.Closing.{close_refusal, close_book}
use Rattle.book_shares.specs.Shares.{closing_share}
use Rattle.book.specs.declared.arguments.EnrolArguments.{EnrolArguments}
use Rattle.book.specs.declared.arguments.LineArguments.{LineArguments}
use Rattle.book.specs.declared.arguments.PostArguments.{PostArguments}
use Rattle.book.specs.declared.arguments.QuoteArguments.{QuoteArguments}
use Rattle.book.specs.Calls.{cleared, fresh_refusal, fresh_book, open_refusal, open_book, post_refusal, post_book, posted_entry}
use Rattle.book.specs.Calls.{quote_in_range, strike_refusal, strike_book, enrol_in_range, enrol_refusal, enrol_book, enrolled_element, quote_refusal, quote_book, quoted_element}
use Rattle.book.specs.Calls.{post_reply, post_grounds}
use Rattle.book.specs.Replies.{Reply}
use Rattle.book.specs.Lines.{line_post, line_reply, line_book}
use Rattle.book.specs.Statements.{of_chain, waits, elements_over, waiting_over, shares_over, zeros_beside, statement_of, statement_refusal, statement_reply}
use Rattle.book.specs.Walk.{with_total, StatementWalk}
use Rattle.apportion.proofs.Grounds.{or-none, refused-old, either, not-given}
use Rattle.apportion.proofs.Sums.{sum-zero}
use Rattle.apportion.proofs.Lists.{filled, filled-length, list_length, list_at}
use Rattle.book_words.proofs.Booleans.{cond_same}
use Rattle.book_words.proofs.CappedSums.{within-parts}
use Rattle.book_words.proofs.SoundTests.{sound-counted}
use Rattle.book_words.proofs.Passengers.{others-mix-not}
use Rattle.book_words.proofs.Ranges.{between-low, between-high}
use Rattle.book_words.proofs.RecordRules.{entry-numbered, entry-suits, element-numbered, element-suits, element-quoted, quoted-suits}
use Rattle.book_words.proofs.RecordsAfterWrite.{CategoryAdded, category-added, EntryAdded, entry-added, EntryStruck, entry-struck, ElementAdded, element-added}
use Rattle.book_words.proofs.SoundRecords.{SoundFacts, facts-sound, sound-facts}
use Rattle.book_words.proofs.WordsAfterWrite.{filled-past}
use Rattle.workbook.specs.Lines.{line_grounds, line_refusal}
use Rattle.workbook.proofs.Laws.{line-never, line-most}
use Rattle.book.proofs.LinesAsPosts.{refused-or-posted}
use Rattle.book.proofs.AcceptedCalls.{struck, opened, posted, unclosed-zero, enrolled, quoted, enrol-measured}
use Rattle.book_words.proofs.SumsAfterWrite.{category-sums}
use Rattle.book.proofs.SumsAfterCall.{closing-sums}
use Rattle.book.proofs.CallsKeepSound.{open-keeps, post-keeps, strike-keeps, element-keeps}
use Rattle.book.proofs.QuotedAmounts.{quote-measured}
use Rattle.book_shares.proofs.CloseAccepted.{accepted-closing}
use Rattle.book.proofs.StatementWalk.{walk-holds}
pub use Rattle.book_shares.proofs.Laws.{close-refused, close-closed, shares-handed, share-near-exact, close-sound}
pub use Rattle.book.proofs.StatementWalk.{StatementWithin, statement-within, class-total-within}
pub use Rattle.book.proofs.StatementWalk.{held_next, held_fits, held-fit, chain-alone, held-statement, held-total}

module _ (ws : List ℕ) where
  -- where ground 1 does not hold, the book is there
  there : not (sound ws) ≡ false → book_length ≤ length ws
  there e = (sound-counted ws (not-false (sound ws) e)).long

  -- a call leaves a sound book sound where an accepted one does
  sound-either : (n : ℕ) (new : List ℕ) → ((n ≡ 0 → ⊥) → new ≡ ws) → (n ≡ 0 → SoundFacts ws → SoundFacts new) → sound ws ≡ true → sound new ≡ true
  sound-either n new same made fine = either (λ b. sound b ≡ true) n new ws same (λ e. facts-sound new (made e (sound-facts ws fine))) fine

  -- fresh
  pub record Fresh (ws' : List ℕ) : Type 0 where
    pub same_length : length ws' ≡ length ws
    pub marked : at ws' 0 ≡ mark
    pub cleared-words : (k : ℕ) → 0 < k → k < book_length → at ws' k ≡ 0
    pub rest_kept : (k : ℕ) → book_length ≤ k → at ws' k ≡ at ws k

  pub fresh_accepted : book_length ≤ length ws → fresh_refusal ws ≡ 0
  unfolding fresh_refusal
  fresh_accepted h = rw (le-ltb (length ws) book_length h)

  pub fresh-made : book_length ≤ length ws → Fresh (fresh_book ws)
  unfolding fresh_book cleared
  fresh-made h =
      let zeros : ℕ → ℕ = λ k. 0 in
      let words = filled book_length zeros ws in
      let long = filled-length book_length zeros ws h in
      rw (fresh_accepted h)
      (record {
        same_length = length-set words 0 mark ∙ long;
        marked = get_or-set_same words 0 mark 0 (omega (arith, long));
        cleared-words = λ k some inside.
            get_or-set_other words 0 k mark 0 (λ e. omega arith)
            ∙ get_or-append (list_below book_length zeros) (drop book_length ws) 0 k (omega (arith, list_length book_length zeros))
            ∙ list_at book_length zeros k inside;
        rest_kept = λ k past. get_or-set_other words 0 k mark 0 (λ e. omega arith) ∙ filled-past book_length zeros ws k past;
      })

  pub fresh-empty : book_length ≤ length ws → (categories (fresh_book ws) ≡ 0) × (entries (fresh_book ws) ≡ 0) × (elements (fresh_book ws) ≡ 0)
  fresh-empty h =
      let zero = (fresh-made h).cleared-words in
      (zero 1 (omega arith) (omega arith), zero 2 (omega arith) (omega arith), zero 3 (omega arith) (omega arith))

  pub fresh-sound : book_length ≤ length ws → sound (fresh_book ws) ≡ true
  unfolding all_unstruck shares_of activities
  fresh-sound h =
      let new = fresh_book ws in
      let made = fresh-made h in
      let none = fresh-empty h in
      facts-sound new
      (record {
        counts = omega (arith, made.same_length);
        marked = made.marked;
        each-category = λ p i. let z : ⊥ = omega arith in absurd z;
        each-entry = λ p i. let z : ⊥ = omega arith in absurd z;
        each-element = λ p i. let z : ⊥ = omega arith in absurd z;
        unmixed = λ p i. let z : ⊥ = omega arith in absurd z;
        limited = λ s. rw (none.1, none.2) (omega arith);
        active = rw none.2 (omega arith);
        balanced = λ p i. let z : ⊥ = omega arith in absurd z;
      })

  pub fresh-refused : length ws < book_length → (fresh_refusal ws ≡ 1) × (fresh_book ws ≡ ws)
  unfolding fresh_refusal fresh_book
  fresh-refused h = (rw (lt-ltb (length ws) book_length h), rw (lt-ltb (length ws) book_length h))

  -- open
  module _ (kind : ℕ) where
    pub open-refused : (open_refusal ws kind ≡ 0 → ⊥) → open_book ws kind ≡ ws
    unfolding open_book
    open-refused ne = refused-old (open_refusal ws kind) _ ws ne

    pub open-added : open_refusal ws kind ≡ 0 → CategoryAdded ws (open_book ws kind) (record { kind = kind; closed = 0 })
    unfolding open_book
    open-added e =
        let none = opened ws kind e in
        rw e (category-added ws (there (none 1)) (record { kind = kind; closed = 0 }) (leb-false most_categories (categories ws) (none 8)))

    pub open-sound : sound ws ≡ true → sound (open_book ws kind) ≡ true
    unfolding category_fine
    open-sound =
        sound-either (open_refusal ws kind) (open_book ws kind) open-refused
        (λ e w.
        let none = opened ws kind e in
        open-keeps ws (open_book ws kind) (record { kind = kind; closed = 0 }) w (open-added e)
        (leb-false most_categories (categories ws) (none 8)) (and_from (is_kind kind) true (not-false (is_kind kind) (none 3)) refl) refl)

    -- an opening leaves the sums as they are
    pub open-sums : sums_of (open_book ws kind) ≡ sums_of ws
    open-sums =
        either (λ b. sums_of b ≡ sums_of ws) (open_refusal ws kind) (open_book ws kind) ws open-refused
        (λ e. category-sums ws (open_book ws kind) (record { kind = kind; closed = 0 }) (open-added e)) refl

  -- post
  module _ (p : PostArguments) where
    pub post-refused : (post_refusal ws p ≡ 0 → ⊥) → post_book ws p ≡ ws
    unfolding post_book
    post-refused ne = refused-old (post_refusal ws p) _ ws ne

    pub post-added : post_refusal ws p ≡ 0 → EntryAdded ws (post_book ws p) (posted_entry p)
    unfolding post_book
    post-added e = let none = posted ws p e in rw e (entry-added ws (there (none 1)) (posted_entry p) (leb-false most_entries (entries ws) (none 8)))

    pub post-sound : sound ws ≡ true → sound (post_book ws p) ≡ true
    post-sound =
        sound-either (post_refusal ws p) (post_book ws p) post-refused
        (λ e w.
        let none = posted ws p e in
        let within = not-false (within_limits (with_entry (sums_of ws) (posted_entry p))) (none 10) in
        let parts = within-parts (with_entry (sums_of ws) (posted_entry p)) within in
        let suits =
        entry-suits (category_of ws p.category) (posted_entry p) (not-false (is_group p.group) (none 3)) (none 6)
        (omega (arith, parts.0)) (omega (arith, parts.1)) (omega arith) in
        post-keeps ws (post_book ws p) (posted_entry p) w (post-added e) (leb-false most_entries (entries ws) (none 8))
        (sym (entry-numbered ws (posted_entry p) (not-false (between 1 (categories ws) p.category) (none 2))) ∙ suits)
        (unclosed-zero ws p.category (none 4)) within)

  -- line: an accepted one is the post of its converted cells
  module _ (l : LineArguments) where
    pub line-posted : (line_reply ws l).refusal ≡ 0 → (post_refusal ws (line_post l) ≡ 0) × (line_book ws l ≡ post_book ws (line_post l))
    unfolding post_reply
    line-posted e =
        ⊎_elim (λ bad. absurd (bad.refused (sym (ap (λ (r : Reply). r.refusal) bad.reply) ∙ e)))
        (λ done. (sym (ap (λ (r : Reply). r.refusal) done.reply) ∙ e, done.book))
        (refused-or-posted ws l)

    pub line_refused : ((line_reply ws l).refusal ≡ 0 → ⊥) → line_book ws l ≡ ws
    unfolding post_reply
    line_refused ne =
        ⊎_elim (λ bad. bad.book)
        (λ done. done.book ∙ post-refused (line_post l) (λ z. ne (ap (λ (r : Reply). r.refusal) done.reply ∙ z)))
        (refused-or-posted ws l)

    pub line-sound : sound ws ≡ true → sound (line_book ws l) ≡ true
    line-sound w = ⊎_elim (λ bad. ap sound bad.book ∙ w) (λ done. ap sound done.book ∙ post-sound (line_post l) w) (refused-or-posted ws l)

    -- it is never refused with 7
    pub line-in-range : (line_reply ws l).refusal ≡ 7 → ⊥
    unfolding post_reply post_refusal line_refusal
    line-in-range e =
        ⊎_elim
        (λ bad.
        not-given 7 (line_grounds l.line) (omega arith) (line-never l.line 7 refl refl) (sym (ap (λ (r : Reply). r.refusal) bad.reply) ∙ e))
        (λ done.
        let p = line_post l in
        let most = line-most l.line done.fine in
        not-given 7 (post_grounds ws p) (omega arith)
        (rw (
          le-leb p.quantity 1_000_000_000_000 most.0,
          le-leb p.operation_factor 10_000_000_000 most.1,
          le-leb p.provision_factor 10_000_000_000 most.2,
        ))
        (sym (ap (λ (r : Reply). r.refusal) done.reply) ∙ e))
        (refused-or-posted ws l)

  -- strike
  module _ (entry : ℕ) where
    pub strike-refused : (strike_refusal ws entry ≡ 0 → ⊥) → strike_book ws entry ≡ ws
    unfolding strike_book
    strike-refused ne = refused-old (strike_refusal ws entry) _ ws ne

    struck-inside : strike_refusal ws entry ≡ 0 → (1 ≤ entry) × (entry ≤ entries ws)
    struck-inside e =
        let numbered = not-false (between 1 (entries ws) entry) (struck ws entry e 2) in
        (between-low 1 (entries ws) entry numbered, between-high 1 (entries ws) entry numbered)

    -- the entry's category is open
    pub struck-unclosed : strike_refusal ws entry ≡ 0 → is_closed ws (entry_at ws (entry - 1)).category ≡ false
    struck-unclosed e =
        let mine = entry_at ws (entry - 1) in
        (or-none (is_closed ws mine.category) (not (eqb mine.struck 0)) (struck ws entry e 4)).0

    pub strike-struck : strike_refusal ws entry ≡ 0 → EntryStruck ws (strike_book ws entry) (entry - 1)
    unfolding strike_book
    strike-struck e =
        let counts = sound-counted ws (not-false (sound ws) (struck ws entry e 1)) in
        rw e (entry-struck ws counts.long (entry - 1) (omega (arith, counts, struck-inside e)))

    pub strike-sound : sound ws ≡ true → sound (strike_book ws entry) ≡ true
    strike-sound =
        sound-either (strike_refusal ws entry) (strike_book ws entry) strike-refused
        (λ e w.
        strike-keeps ws (strike_book ws entry) (entry - 1) w (strike-struck e) (omega (arith, struck-inside e))
        (unclosed-zero ws (entry_at ws (entry - 1)).category (struck-unclosed e)))

  -- enrol
  module _ (e : EnrolArguments) where
    abbrev enrolled-one : Element
    enrolled-one = enrolled_element (category_of ws e.category) e

    pub enrol-refused : (enrol_refusal ws e ≡ 0 → ⊥) → enrol_book ws e ≡ ws
    unfolding enrol_book
    enrol-refused ne = refused-old (enrol_refusal ws e) _ ws ne

    pub enrol-added : enrol_refusal ws e ≡ 0 → ElementAdded ws (enrol_book ws e) enrolled-one
    unfolding enrol_book
    enrol-added z = let none = enrolled ws e z in rw z (element-added ws (there (none 1)) enrolled-one (leb-false most_elements (elements ws) (none 8)))

    -- an enrolled element keeps its rules
    enrolled-fine : enrol_refusal ws e ≡ 0 → element_fine ws enrolled-one ≡ true
    enrolled-fine z =
        let none = enrolled ws e z in
        let category = category_of ws e.category in
        let numbered = not-false (between 1 (categories ws) e.category) (none 2) in
        let known = and_parts (is_chain e.chain) (is_code e.code) (not-false (is_chain e.chain && is_code e.code) (none 3)) in
        let measured = enrol-measured category e (not-false (enrol_in_range category e) (none 7)) in
        let low = between-low 1 (categories ws) e.category numbered in
        sym (element-numbered ws enrolled-one (λ is. omega arith) (between-high 1 (categories ws) e.category numbered))
        ∙ element-suits category enrolled-one known.0 known.1 (none 6) measured.amount measured.distance measured.mass refl
        (unclosed-zero ws e.category (none 4)) refl refl

    pub enrol-sound : sound ws ≡ true → sound (enrol_book ws e) ≡ true
    enrol-sound =
        sound-either (enrol_refusal ws e) (enrol_book ws e) enrol-refused
        (λ z w.
        let none = enrolled ws e z in
        element-keeps ws (enrol_book ws e) enrolled-one w (enrol-added z) (leb-false most_elements (elements ws) (none 8)) (enrolled-fine z) (none 14)
        (not-false (within_limits (with_element (sums_of ws) enrolled-one)) (none 10)) (λ p s. rw (share s) (cond_same (eqb e.category (p + 1)) 0)))
      where
        share : (s : Side) → share_of s enrolled-one ≡ 0
        share operation = refl
        share provision = refl

  -- quote
  module _ (q : QuoteArguments) where
    pub quote-refused : (quote_refusal ws q ≡ 0 → ⊥) → quote_book ws q ≡ ws
    unfolding quote_book
    quote-refused ne = refused-old (quote_refusal ws q) _ ws ne

    pub quote-added : quote_refusal ws q ≡ 0 → ElementAdded ws (quote_book ws q) (quoted_element q)
    unfolding quote_book
    quote-added e = let none = quoted ws q e in rw e (element-added ws (there (none 1)) (quoted_element q) (leb-false most_elements (elements ws) (none 8)))

    -- a quoted element keeps its rules
    quoted-fine : quote_refusal ws q ≡ 0 → element_fine ws (quoted_element q) ≡ true
    quoted-fine e =
        let none = quoted ws q e in
        let known = and_parts (is_chain q.chain) (is_adjust q.adjust) (not-false (is_chain q.chain && is_adjust q.adjust) (none 3)) in
        let measured = quote-measured q (not-false (quote_in_range q) (none 7)) in
        sym (element-quoted ws (quoted_element q) refl) ∙ quoted-suits (quoted_element q) known.0 measured.mass measured.distance refl refl refl

    pub quote-sound : sound ws ≡ true → sound (quote_book ws q) ≡ true
    quote-sound =
        sound-either (quote_refusal ws q) (quote_book ws q) quote-refused
        (λ e w.
        let none = quoted ws q e in
        element-keeps ws (quote_book ws q) (quoted_element q) w (quote-added e) (leb-false most_elements (elements ws) (none 8)) (quoted-fine e) (others-mix-not ws (elements ws) 0 0 0 refl)
        (not-false (within_limits (with_element (sums_of ws) (quoted_element q))) (none 10)) (λ p s. rw (ne_eqb 0 (p + 1) (λ z. omega arith))))

  -- a closing leaves the sums as they are
  pub close-sums : (category : ℕ) → sums_of (close_book ws category) ≡ sums_of ws
  close-sums category =
      either (λ b. sums_of b ≡ sums_of ws) (close_refusal ws category) (close_book ws category) ws (close-refused ws category)
      (λ e.
      let ok = accepted-closing ws category e in
      closing-sums ws (close_book ws category) category (closing_share ws category) (close-closed ws category e) (sound-counted ws ok.fine)
      (between-low 1 (categories ws) category ok.numbered))
      refl

  -- statement: what an accepted one answers, and where it is zeros
  module _ (chain : ℕ) where
    pub statement-unsound : sound ws ≡ false → statement_reply ws chain ≡ zeros_beside 1
    unfolding statement_reply statement_refusal
    statement-unsound unsound = rw unsound

    pub statement-unknown : sound ws ≡ true → is_chain chain ≡ false → statement_reply ws chain ≡ zeros_beside 3
    unfolding statement_reply statement_refusal
    statement-unknown fine unknown = rw (fine, unknown)

    pub statement-accepted : sound ws ≡ true → is_chain chain ≡ true → statement_reply ws chain ≡ statement_of ws chain
    unfolding statement_reply statement_refusal
    statement-accepted fine known = rw (fine, known)

    -- the walk: what it holds after the first k elements, and the reply
    pub statement-walk : sound ws ≡ true → is_chain chain ≡ true → StatementWalk ws chain
    statement-walk fine known =
        record {
          holds = walk-holds ws (of_chain chain);
          replies = statement-accepted fine known ∙ sym (held-statement ws chain) ∙ ap with_total (sym (walk-holds ws (of_chain chain) (elements ws)));
        }

    -- "zeros for an unused chain"
    pub statement-unused : sound ws ≡ true → is_chain chain ≡ true → ((p : ℕ) → p < elements ws → (element_at ws p).chain ≡ chain → ⊥)
        → statement_reply ws chain ≡ zeros_beside 0
    unfolding statement_of elements_over waiting_over shares_over
    statement-unused fine known unused =
        let none : (p : ℕ) → p < elements ws → of_chain chain (element_at ws p) ≡ false = λ p h. ne_eqb (element_at ws p).chain chain (unused p h) in
        let nothing : (side : Side) → shares_over ws (of_chain chain) side ≡ 0 =
        λ side. sum-zero (elements ws) (λ p. cond (of_chain chain (element_at ws p)) (share_of side (element_at ws p)) 0) (λ p h. rw (none p h)) in
        statement-accepted fine known
        ∙ rw (
          sum-zero (elements ws) (λ p. one_if (of_chain chain (element_at ws p))) (λ p h. rw (none p h)),
          sum-zero (elements ws) (λ p. one_if (of_chain chain (element_at ws p) && waits ws (element_at ws p))) (λ p h. rw (none p h)),
          nothing operation,
          nothing provision,
        )
