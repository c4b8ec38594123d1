-- Where the tally is what the book is read as, its records and sums are the book's. Assumes nothing.
use mathlib.Core.Bool.{Bool, true, false, cond, not, ◌&&◌, true≢false}
use mathlib.Core.List.{List}
use mathlib.Core.Option.{some}
use mathlib.Core.Path.{◌≡◌, refl, sym, ap, ◌∙◌}
use Prim.Native.Nat.{ℕ, ◌+◌, ◌-◌, ◌≤◌, ◌<◌}
use native.Mathlib.Omega.{arith}
use lib.Dec.{eqb}
use borrow.Author.Tests.{eqb-true, eqb-false, ne_eqb}
use Rattle.apportion.specs.Places.{sum_below}
use Rattle.book_words.specs.Book.{entries, entry_at, elements, element_at, is_closed}
use Rattle.book_words.specs.Measures.{by_stated_mass}
use Rattle.book_words.specs.Soundness.{sound}
use Rattle.book_words.specs.declared.totals.Side.{Side}
use Rattle.book_words.specs.declared.totals.Side.TheVariants.{Operation as operation, Provision as provision}
use Rattle.book_words.specs.Totals.{share_of, unstruck}
use Rattle.book_words.specs.declared.records.Element.{Element}
use Rattle.book_words.specs.declared.records.Entry.{Entry}
use Rattle.book_shares.specs.Shares.{exact_share, exact_of}
use Rattle.book_shares.specs.Sums.{Recipients, Freight, Passengers, Group, among, pooled, pool, activity_among, passengers_by_mass}
use Rattle.book.specs.Statements.{waits}
use Rattle.apportion.proofs.Sums.{sum-cong}
use Rattle.book_words.proofs.ShareSums.{entry-category, category-inside}
use Rattle.conservation.specs.Conserved.{sum_numbered, chain_of, waits_in, unstruck_on, entry_emissions, element_emissions}
use Rattle.conservation.specs.Conserved.{among_in, pool_in, activity_in, mass_in, by_stated_mass_in, exact_in}
use Rattle.conservation.specs.Tally.{TallyEntry, TallyElement, Enrolment, Quotation, enrolled, quoted, numbered}
use Rattle.conservation.proofs.TallyLists.{sum-listing, numbered-some}
use Rattle.conservation.proofs.BookAsTally.{read_entry, enrolment_of, quotation_of, read_element, tally_of, closed-read}

-- a quote is no enrolment, and what either holds is told by it
is_quote : TallyElement → Bool
is_quote (enrolled e) = false
is_quote (quoted q) = true

enrolment_in : Enrolment → TallyElement → Enrolment
enrolment_in other (enrolled e) = e
enrolment_in other (quoted q) = other

quotation_in : Quotation → TallyElement → Quotation
quotation_in other (enrolled e) = other
quotation_in other (quoted q) = q

pub read-enrolled : (r : Element) (e : Enrolment) → read_element r ≡ enrolled e → (r.category ≡ 0 → ⊥) × (enrolment_of r ≡ e)
unfolding is_quote enrolment_in
read-enrolled r e is = go (eqb r.category 0) refl is
  where
    go : (t : Bool) → eqb r.category 0 ≡ t → cond t (quoted (quotation_of r)) (enrolled (enrolment_of r)) ≡ enrolled e
        → (r.category ≡ 0 → ⊥) × (enrolment_of r ≡ e)
    go true h z = absurd (true≢false (ap is_quote z))
    go false h z = (eqb-false r.category 0 h, ap (enrolment_in e) z)

pub read-quoted : (r : Element) (q : Quotation) → read_element r ≡ quoted q → (r.category ≡ 0) × (quotation_of r ≡ q)
unfolding is_quote quotation_in
read-quoted r q is = go (eqb r.category 0) refl is
  where
    go : (t : Bool) → eqb r.category 0 ≡ t → cond t (quoted (quotation_of r)) (enrolled (enrolment_of r)) ≡ quoted q → (r.category ≡ 0) × (quotation_of r ≡ q)
    go true h z = (eqb-true r.category 0 h, ap (quotation_in q) z)
    go false h z = absurd (true≢false (sym (ap is_quote z)))

-- what the tally's records add is what the book's add
pub chain-read : (r : Element) → chain_of (read_element r) ≡ r.chain
chain-read r = go (eqb r.category 0)
  where
    go : (t : Bool) → chain_of (cond t (quoted (quotation_of r)) (enrolled (enrolment_of r))) ≡ r.chain
    go true = refl
    go false = refl

unstruck-read : (side : Side) (r : Entry) → unstruck_on side (read_entry r) ≡ unstruck side r
unstruck-read side r = go side
  where
    other_way : (t : Bool) (n : ℕ) → cond (not t) 0 n ≡ cond t n 0
    other_way true n = refl
    other_way false n = refl

    go : (s : Side) → unstruck_on s (read_entry r) ≡ unstruck s r
    go operation = other_way (eqb r.struck 0) r.operation
    go provision = other_way (eqb r.struck 0) r.provision

element-emissions-read : (side : Side) (r : Element) → element_emissions side (read_element r) ≡ cond (eqb r.category 0) (share_of side r) 0
element-emissions-read side r = go side (eqb r.category 0)
  where
    go : (s : Side) (t : Bool) → element_emissions s (cond t (quoted (quotation_of r)) (enrolled (enrolment_of r))) ≡ cond t (share_of s r) 0
    go operation true = refl
    go operation false = refl
    go provision true = refl
    go provision false = refl

-- of a category, whose number is not 0, no quote is
among-read : (category : ℕ) → (category ≡ 0 → ⊥) → (recipients : Recipients) (f : Enrolment → ℕ) (g : Element → ℕ) → ((r : Element) → f (enrolment_of r) ≡ g r)
    → (r : Element) → among_in category recipients f (read_element r) ≡ among category recipients g r
among-read category enrols recipients f g same r = go (eqb r.category 0) refl
  where
    go : (t : Bool) → eqb r.category 0 ≡ t
        → among_in category recipients f (cond t (quoted (quotation_of r)) (enrolled (enrolment_of r))) ≡ among category recipients g r
    go true h = rw (ne_eqb r.category category (λ z. enrols (sym z ∙ eqb-true r.category 0 h)))
    go false h = rw (same r)

module _ (ws : List ℕ) where
  -- a sum over the tally is that over the book, where they are the same one by one
  pub elements-sum : (h : ℕ → TallyElement → ℕ) (f : ℕ → ℕ) → ((p : ℕ) → p < elements ws → h (p + 1) (read_element (element_at ws p)) ≡ f p)
      → sum_numbered (tally_of ws).elements h ≡ sum_below (elements ws) f
  unfolding tally_of
  elements-sum h f same =
      let read : ℕ → TallyElement = λ p. read_element (element_at ws p) in
      sum-listing (elements ws) read h ∙ sum-cong (elements ws) (λ p. h (p + 1) (read p)) f same

  entries-sum : (h : ℕ → TallyEntry → ℕ) (f : ℕ → ℕ) → ((p : ℕ) → p < entries ws → h (p + 1) (read_entry (entry_at ws p)) ≡ f p)
      → sum_numbered (tally_of ws).entries h ≡ sum_below (entries ws) f
  unfolding tally_of
  entries-sum h f same =
      let read : ℕ → TallyEntry = λ p. read_entry (entry_at ws p) in
      sum-listing (entries ws) read h ∙ sum-cong (entries ws) (λ p. h (p + 1) (read p)) f same

  -- the element of a number that is there
  pub element-told : (k : ℕ) (e : TallyElement) → numbered (tally_of ws).elements k ≡ some e
      → (1 ≤ k) × (k ≤ elements ws) × (read_element (element_at ws (k - 1)) ≡ e)
  unfolding tally_of
  element-told k e is = numbered-some (elements ws) (λ p. read_element (element_at ws p)) k e is

  -- the sums of an exact share
  pool-read : (category group : ℕ) (side : Side) → pool_in (tally_of ws) category group side ≡ pool ws category group side
  unfolding pool_in pool
  pool-read category group side =
      entries-sum (λ k e. cond (eqb e.category category) (cond (eqb e.group group) (unstruck_on side e) 0) 0)
      (λ p. pooled category group side (entry_at ws p))
      (λ p h. ap (λ (n : ℕ). cond (eqb (entry_at ws p).category category) (cond (eqb (entry_at ws p).group group) n 0) 0) (unstruck-read side (entry_at ws p)))

  module _ (category : ℕ) (enrols : category ≡ 0 → ⊥) where
    activity-read : (recipients : Recipients) → activity_in (tally_of ws) category recipients ≡ activity_among ws category recipients
    unfolding activity_in activity_among
    activity-read recipients =
        elements-sum (λ k e. among_in category recipients (λ x. x.activity) e) (λ p. among category recipients (λ e. e.activity) (element_at ws p))
        (λ p h. among-read category enrols recipients (λ x. x.activity) (λ e. e.activity) (λ r. refl) (element_at ws p))

    mass-read : mass_in (tally_of ws) category ≡ passengers_by_mass ws category
    unfolding mass_in passengers_by_mass
    mass-read =
        elements-sum (λ k e. among_in category Passengers by_stated_mass_in e) (λ p. among category Passengers by_stated_mass (element_at ws p))
        (λ p h. among-read category enrols Passengers by_stated_mass_in by_stated_mass (λ r. refl) (element_at ws p))

  -- the exact share by the tally's sums is that by the book's
  pub exact_read : (r : Element) (side : Side) → (r.category ≡ 0 → ⊥) → exact_in (tally_of ws) side (enrolment_of r) ≡ exact_of ws r.category side r
  unfolding exact_in exact_share
  exact_read r side enrols =
      rw (
        pool-read r.category 0 side,
        pool-read r.category r.code side,
        activity-read r.category enrols Freight,
        activity-read r.category enrols Passengers,
        activity-read r.category enrols (Group r.code),
        mass-read r.category enrols,
      )

  module _ (fine : sound ws ≡ true) where
    -- an element waits by the tally where it waits by the book
    pub waits-read : (p : ℕ) → p < elements ws → waits_in (tally_of ws) (read_element (element_at ws p)) ≡ waits ws (element_at ws p)
    waits-read p h = go (eqb (element_at ws p).category 0) refl
      where
        go : (t : Bool) → eqb (element_at ws p).category 0 ≡ t
            → waits_in (tally_of ws) (cond t (quoted (quotation_of (element_at ws p))) (enrolled (enrolment_of (element_at ws p))))
            ≡ not t && not (is_closed ws (element_at ws p).category)
        go true e = refl
        go false e =
            let there = eqb-false (element_at ws p).category 0 e in
            ap not (closed-read ws (element_at ws p).category (omega arith) (category-inside ws fine p h))

    -- the emissions that the tally counts are those of the book
    entry-emissions-read : (side : Side) (p : ℕ) → p < entries ws
        → entry_emissions (tally_of ws) side (read_entry (entry_at ws p)) ≡ cond (is_closed ws (entry_at ws p).category) (unstruck side (entry_at ws p)) 0
    entry-emissions-read side p h =
        let inside = entry-category ws fine p h in
        rw (closed-read ws (entry_at ws p).category inside.0 inside.1, unstruck-read side (entry_at ws p))

    pub closed-sum : (side : Side) → sum_numbered (tally_of ws).entries (λ k e. entry_emissions (tally_of ws) side e)
        ≡ sum_below (entries ws) (λ p. cond (is_closed ws (entry_at ws p).category) (unstruck side (entry_at ws p)) 0)
    closed-sum side =
        entries-sum (λ k e. entry_emissions (tally_of ws) side e)
        (λ p. cond (is_closed ws (entry_at ws p).category) (unstruck side (entry_at ws p)) 0)
        (entry-emissions-read side)

  pub quoted-sum : (side : Side) → sum_numbered (tally_of ws).elements (λ k e. element_emissions side e)
      ≡ sum_below (elements ws) (λ p. cond (eqb (element_at ws p).category 0) (share_of side (element_at ws p)) 0)
  quoted-sum side =
      elements-sum (λ k e. element_emissions side e)
      (λ p. cond (eqb (element_at ws p).category 0) (share_of side (element_at ws p)) 0)
      (λ p h. element-emissions-read side (element_at ws p))
