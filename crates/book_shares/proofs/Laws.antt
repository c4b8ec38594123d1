-- The laws of a closing, for the crates above. Assumes nothing.
use mathlib.Core.Bool.{Bool, cond, not, true, false}
use mathlib.Core.List.{List}
use mathlib.Core.Logic.{⊎_elim}
use mathlib.Core.Path.{◌≡◌, refl, ◌∙◌, sym, ap}
use Prim.Native.Nat.{ℕ, ◌≤◌, ◌<◌}
use native.Mathlib.Omega.{arith}
use lib.Dec.{eqb}
use lib.ListN.{length, drop, length-append, length-drop}
use borrow.Author.Tests.{eq-eqb, ne_eqb, le-ltb, lt-ltb}
use Rattle.std.proofs.lemmas.Bool.{cases_eq, cases_lt}
use Rattle.apportion.specs.Nearness.{Within}
use Rattle.apportion.specs.Places.{at, sum_below}
use Rattle.book_words.specs.Book.{categories, elements, element_at, most_elements}
use Rattle.book_words.specs.Soundness.{sound}
use Rattle.book_words.specs.declared.totals.Side.{Side}
use Rattle.book_words.specs.declared.totals.Side.TheVariants.{Operation as operation, Provision as provision}
use Rattle.book_words.specs.Totals.{unstruck_of, shares_of, share_of}
use Rattle.book_words.specs.declared.records.Element.{Element}
use Rattle.book_shares.specs.Closing.{close_grounds, close_refusal, close_book}
use Rattle.book_shares.specs.Previews.{held_by, pair_at, pair_words, pairs_of, pairs_written, Previewed, preview_pairs, preview_refusal, short_of_pairs}
use Rattle.book_shares.specs.Shares.{closing_share, exact_of}
use Rattle.apportion.proofs.Grounds.{accepted-new, checked-in-vain, refused-old, either}
use Rattle.apportion.proofs.Sums.{sum-cong}
use Rattle.book_words.proofs.ShareSums.{open-shares}
use Rattle.book_words.proofs.SoundTests.{sound-counted}
use Rattle.book_words.proofs.WordsAfterWrite.{front-past}
use Rattle.book_words.proofs.Ranges.{between-low, between-high}
use Rattle.book_words.proofs.SoundRecords.{facts-sound, sound-facts}
use Rattle.book_shares.proofs.SumBounds.{pools-add, at_place}
use Rattle.book_shares.proofs.CloseAccepted.{AcceptedClosing, accepted-closing, divisions}
use Rattle.book_shares.proofs.CloseWrites.{CategoryClosed, category_closed}
use Rattle.book_shares.proofs.CloseKeepsSound.{shares-written, close-keeps}
use Rattle.book_shares.proofs.ElementFacts.{active}
use Rattle.book_shares.proofs.ClosingShares.{Divisions, share-elsewhere, shares-add, share-within}
use Rattle.book_shares.proofs.Pairs.{pair-at, pairs-length}
pub use Rattle.book_shares.proofs.ClosingShares.{alone}

module _ (ws : List ℕ) (category : ℕ) where
  -- A refused closing leaves the words as they are.
  pub close-refused : (close_refusal ws category ≡ 0 → ⊥) → close_book ws category ≡ ws
  unfolding close_book
  close-refused ne = refused-old (close_refusal ws category) _ ws ne

  numbers : AcceptedClosing ws category → (1 ≤ category) × (category ≤ categories ws)
  numbers k = (between-low 1 (categories ws) category k.numbered, between-high 1 (categories ws) category k.numbered)

  -- An accepted one sets the category's closed word and the two shares of each of its elements. All else is as it was: the
  -- elements of other categories, quoted ones, uncounted records and later words too.
  pub close-closed : close_refusal ws category ≡ 0 → CategoryClosed ws (close_book ws category) category (closing_share ws category)
  unfolding close_book
  close-closed e =
      let k = accepted-closing ws category e in
      rw e (category_closed ws (sound-counted ws k.fine) category (numbers k).0 (numbers k).1 (closing_share ws category))

  -- an element of the category gets its share
  share-written : close_refusal ws category ≡ 0 → (side : Side) (p : ℕ) → p < elements ws → (element_at ws p).category ≡ category
      → share_of side (element_at (close_book ws category) p) ≡ closing_share ws category side p
  share-written e operation p h is = ap (λ (r : Element). r.operation) ((close-closed e).element_shared p h is)
  share-written e provision p h is = ap (λ (r : Element). r.provision) ((close-closed e).element_shared p h is)

  module _ (e : close_refusal ws category ≡ 0) (side : Side) where
    abbrev hands : Divisions ws category side
    hands = divisions ws category side (accepted-closing ws category e)

    -- what is written is all that there is to hand out
    balance : sum_below (elements ws) (λ p. cond (eqb (element_at ws p).category category) (closing_share ws category side p) 0) ≡ unstruck_of ws category side
    balance =
        sum-cong (elements ws) (λ p. cond (eqb (element_at ws p).category category) (closing_share ws category side p) 0) (closing_share ws category side)
        (λ p h. members (element_at ws p).category (closing_share ws category side p) (λ other. share-elsewhere ws category side hands p other))
        ∙ shares-add ws category side hands
        ∙ pools-add ws (accepted-closing ws category e).fine category side
      where
        members : (c n : ℕ) → ((c ≡ category → ⊥) → n ≡ 0) → cond (eqb c category) n 0 ≡ n
        members c n none =
            ⊎_elim
            (λ (is : c ≡ category). rw (eq-eqb c category is))
            (λ (other : c ≡ category → ⊥). rw (ne_eqb c category other) (sym (none other)))
            (cases_eq c category)

    -- The shares of the closed category sum to its unstruck entries.
    pub shares-handed : shares_of (close_book ws category) category side ≡ unstruck_of ws category side
    shares-handed = shares-written ws (close_book ws category) category (closing_share ws category) (close-closed e) side ∙ balance

    -- Every share of the closed category is less than 3 micrograms from its exact share, both ways.
    pub share-near-exact : (p : ℕ) → p < elements ws → (element_at ws p).category ≡ category
        → Within 3 (share_of side (element_at (close_book ws category) p))
        (exact_of ws category side (element_at ws p)).numerator
        (exact_of ws category side (element_at ws p)).denominator
    share-near-exact p h is =
        let m = at_place ws (accepted-closing ws category e).fine p h in
        rw (share-written e side p h is)
        (share-within ws category side hands p h is m.known (active (element_at ws p) m))

  -- A closing, accepted or refused, leaves a sound book sound.
  pub close-sound : sound ws ≡ true → sound (close_book ws category) ≡ true
  close-sound fine =
      either (λ x. sound x ≡ true) (close_refusal ws category) (close_book ws category) ws close-refused
      (λ e.
      let k = numbers (accepted-closing ws category e) in
      facts-sound (close_book ws category)
      (close-keeps ws (close_book ws category) category (closing_share ws category) (sound-facts ws fine) (close-closed e) k.0 k.1 (balance e)))
      fine

-- the laws of a preview
module _ (ws pairs : List ℕ) (category : ℕ) where
  -- It refuses exactly as a closing does, where the pair slice is not under 512 words.
  pub preview-as-close : pair_words ≤ length pairs → preview_refusal ws pairs category ≡ close_refusal ws category
  unfolding preview_refusal close_refusal
  preview-as-close long = checked-in-vain 1 (17, short_of_pairs pairs) (close_grounds ws category) (le-ltb (length pairs) pair_words long)

  -- Where it is, it refuses with 17, or with 1 where the book is not sound.
  pub preview-short : length pairs < pair_words → preview_refusal ws pairs category ≡ cond (sound ws) 17 1
  unfolding preview_refusal
  preview-short short = rw (lt-ltb (length pairs) pair_words short) (either_number (sound ws))
    where
      either_number : (fine : Bool) → ◌≡◌ {A = ℕ} (cond (not fine) 1 17) (cond fine 17 1)
      either_number true = refl
      either_number false = refl

  -- A refused preview leaves the pairs as they are.
  pub preview-refused : (preview_refusal ws pairs category ≡ 0 → ⊥) → preview_pairs ws pairs category ≡ pairs
  unfolding preview_pairs
  preview-refused ne = refused-old (preview_refusal ws pairs category) _ pairs ne

  -- It is accepted exactly when the closing is and the pair slice is not under 512 words.
  pub preview-accepted : (preview_refusal ws pairs category ≡ 0 → (close_refusal ws category ≡ 0) × (pair_words ≤ length pairs))
      × ((close_refusal ws category ≡ 0) × (pair_words ≤ length pairs) → preview_refusal ws pairs category ≡ 0)
  preview-accepted = (
    λ e.
        ⊎_elim
        (λ (short : length pairs < pair_words). absurd (refused (sound ws) (sym (preview-short short) ∙ e)))
        (λ (long : pair_words ≤ length pairs). (sym (preview-as-close long) ∙ e, long))
        (cases_lt (length pairs) pair_words),
    λ both. preview-as-close both.1 ∙ both.0,
  )
    where
      refused : (fine : Bool) → ◌≡◌ {A = ℕ} (cond fine 17 1) 0 → ⊥
      refused true z = omega arith
      refused false z = omega arith

  module _ (e : preview_refusal ws pairs category ≡ 0) where
    abbrev closed : List ℕ
    closed = close_book ws category

    abbrev after : List ℕ
    after = preview_pairs ws pairs category

    abbrev accept : close_refusal ws category ≡ 0
    accept = (preview-accepted.0 e).0

    abbrev changes : CategoryClosed ws closed category (closing_share ws category)
    changes = close-closed ws category accept

    written : after ≡ pairs_written closed pairs
    unfolding preview_pairs
    written = accepted-new (preview_refusal ws pairs category) (pairs_written closed pairs) pairs e

    held : (p : ℕ) → p < most_elements → (side : Side) → pair_at after p side ≡ held_by closed p side
    unfolding pairs_of
    held p h side = ap (λ (l : List ℕ). pair_at l p side) written ∙ pair-at most_elements p (held_by closed) (drop pair_words pairs) h side

    pair-shown : (p : ℕ) → p < elements ws → (side : Side) → pair_at after p side ≡ share_of side (element_at closed p)
    pair-shown p h side =
        held p (omega (arith, sound-counted ws (accepted-closing ws category accept).fine)) side
        ∙ rw (changes.same_elements, lt-ltb p (elements ws) h)

    shown-elsewhere : (p : ℕ) → p < elements ws → ((element_at ws p).category ≡ category → ⊥) → (side : Side) → pair_at after p side ≡ share_of side (element_at ws p)
    shown-elsewhere p h other side = pair-shown p h side ∙ ap (share_of side) (changes.element_kept p other)

    -- what is looked at of the category's elements alone
    members-same : (c x y : ℕ) → (c ≡ category → x ≡ y) → cond (eqb c category) x 0 ≡ cond (eqb c category) y 0
    members-same c x y same =
        ⊎_elim
        (λ (is : c ≡ category). rw (eq-eqb c category is) (same is))
        (λ (other : c ≡ category → ⊥). rw (ne_eqb c category other))
        (cases_eq c category)

    abbrev among_members : (ℕ → ℕ) → ℕ → ℕ
    among_members f p = cond (eqb (element_at ws p).category category) (f p) 0

    long : length (pairs_of closed) ≡ pair_words
    unfolding pairs_of
    long = pairs-length most_elements (held_by closed)

    -- What an accepted preview leaves in the pair slice.
    pub preview-shows : Previewed ws pairs category after
    preview-shows =
        record {
          closing_accepted = accept;
          pair_closed = pair-shown;
          pair_elsewhere = shown-elsewhere;
          pair_open = λ p h other enrolled unclosed side.
              shown-elsewhere p h other side ∙ open-shares ws (accepted-closing ws category accept).fine p h enrolled unclosed side;
          pairs_add = λ side.
              sum-cong (elements ws) (among_members (λ p. pair_at after p side)) (among_members (closing_share ws category side))
              (λ p h. members-same (element_at ws p).category _ _ (λ is. pair-shown p h side ∙ share-written ws category accept side p h is))
              ∙ balance ws category accept side;
          pair_past = λ p past h side. held p h side ∙ rw (changes.same_elements, le-ltb p (elements ws) past);
          rest_kept = λ k past. ap (λ (l : List ℕ). at l k) written ∙ front-past (pairs_of closed) pairs pair_words k long past;
          same_length = ap length written ∙ omega (arith, length-append (pairs_of closed) (drop pair_words pairs), length-drop pair_words pairs, long, (preview-accepted.0 e).1);
        }
