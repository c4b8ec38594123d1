-- A category whose records add what they did has the sums, and so the exact shares, that it had. Assumes nothing.
use mathlib.Core.List.{List}
use mathlib.Core.Logic.{⊎_elim}
use mathlib.Core.Path.{◌≡◌, ◌∙◌, ap, sym, refl}
use Prim.Native.Nat.{ℕ, zero, suc, ◌≤◌, ◌<◌}
use native.Mathlib.Nat.{eq-or-lt_of_le}
use native.Mathlib.Omega.{arith}
use borrow.Author.Tests.{ne_eqb}
use Rattle.std.proofs.lemmas.Bool.{cases_eq}
use Rattle.apportion.specs.Places.{sum_below}
use Rattle.book_words.specs.Book.{entries, most_entries, entry_at, elements, element_at}
use Rattle.book_words.specs.Measures.{by_stated_mass}
use Rattle.book_words.specs.declared.totals.Side.{Side}
use Rattle.book_words.specs.declared.records.Element.{Element}
use Rattle.book_words.specs.declared.records.Entry.{Entry}
use Rattle.book_shares.specs.Shares.{exact_of, exact_share}
use Rattle.book_shares.specs.Sums.{Recipients, Freight, Passengers, Group, pooled, pool, among, sum_among, activity_among, passengers_by_mass}
use Rattle.apportion.proofs.Sums.{sum-cong}
use Rattle.book_words.proofs.RecordsAfterWrite.{struck_entry, EntryAdded, EntryStruck}
use Rattle.book_shares.proofs.CloseWrites.{CategoryClosed, with_shares}
use Rattle.book_shares.proofs.CloseKeepsSound.{measure-kept}

-- the sum over a list whose records add what they did, with more records that add nothing
sum_kept : (n n' : ℕ) (f f' : ℕ → ℕ) → n ≤ n' → ((p : ℕ) → p < n → f' p ≡ f p) → ((p : ℕ) → n ≤ p → p < n' → f' p ≡ 0) → sum_below n' f' ≡ sum_below n f
sum_kept n zero f f' h same none = let e : n ≡ 0 = omega arith in ap (λ (m : ℕ). sum_below m f) (sym e)
sum_kept n (suc n') f f' h same none =
    ⊎_elim
    (λ (e : n ≡ suc n'). ap (λ (m : ℕ). sum_below m f') (sym e) ∙ sum-cong n f' f same)
    (λ (l : n < suc n'). omega (arith, sum_kept n n' f f' (omega arith) same (λ p i j. none p i (omega arith)), none n' (omega arith) (omega arith)))
    (eq-or-lt_of_le h)

-- a measure that does not look at the shares
abbrev Blind : (Element → ℕ) → Type 0
Blind f = (r : Element) (x y : ℕ) → f (with_shares r x y) ≡ f r

-- an entry of another category adds nothing to a pool
pooled-elsewhere : (category group : ℕ) (side : Side) (r : Entry) → (r.category ≡ category → ⊥) → pooled category group side r ≡ 0
pooled-elsewhere category group side r ne = rw (ne_eqb r.category category ne)

-- an element of another category measures nothing in this one
among-elsewhere : (category : ℕ) (recipients : Recipients) (f : Element → ℕ) (r : Element) → (r.category ≡ category → ⊥) → among category recipients f r ≡ 0
among-elsewhere category recipients f r ne = rw (ne_eqb r.category category ne)

-- From one book to the next, each entry adds to the category's pools what it did, and there may be more entries of other categories.
pub record EntriesUnmoved (ws ws' : List ℕ) (category : ℕ) : Type 0 where
  pub no_fewer : entries ws ≤ entries ws'
  pub same : (p : ℕ) → p < entries ws → (group : ℕ) (side : Side) → pooled category group side (entry_at ws' p) ≡ pooled category group side (entry_at ws p)
  pub more_elsewhere : (p : ℕ) → entries ws ≤ p → p < entries ws' → (entry_at ws' p).category ≡ category → ⊥

-- Each element measures what it did, whatever its shares, and there may be more elements of other categories.
pub record ElementsUnmoved (ws ws' : List ℕ) (category : ℕ) : Type 0 where
  pub no_fewer : elements ws ≤ elements ws'
  pub same : (p : ℕ) → p < elements ws → (f : Element → ℕ) → Blind f → f (element_at ws' p) ≡ f (element_at ws p)
  pub more_elsewhere : (p : ℕ) → elements ws ≤ p → p < elements ws' → (element_at ws' p).category ≡ category → ⊥

module _ (ws ws' : List ℕ) (category : ℕ) where
  -- the same entries
  pub entries-stay : entries ws' ≡ entries ws → ((p : ℕ) → p < entries ws → entry_at ws' p ≡ entry_at ws p) → EntriesUnmoved ws ws' category
  entries-stay e kept =
      record {
        no_fewer = omega arith;
        same = λ p h group side. ap (pooled category group side) (kept p h);
        more_elsewhere = λ p i h. let z : ⊥ = omega arith in absurd z;
      }

  -- one entry more, of another category
  pub entry_more : (r : Entry) → EntryAdded ws ws' r → (r.category ≡ category → ⊥) → EntriesUnmoved ws ws' category
  entry_more r a other =
      record {
        no_fewer = omega (arith, a.one_more);
        same = λ p h group side. ap (pooled category group side) (a.entry_kept p (λ e. omega arith));
        more_elsewhere = λ p i h is.
            let here : entries ws ≡ p = omega (arith, a.one_more) in
            other (ap (λ (x : Entry). x.category) (sym a.entry_new) ∙ ap (λ (q : ℕ). (entry_at ws' q).category) here ∙ is);
      }

  -- one entry struck, of another category
  pub entry-less : (place : ℕ) → EntryStruck ws ws' place → ((entry_at ws place).category ≡ category → ⊥) → EntriesUnmoved ws ws' category
  entry-less place a other =
      record {
        no_fewer = omega (arith, a.same_entries);
        same = λ p h group side.
            ⊎_elim
            (λ (e : p ≡ place).
            ap (λ (q : ℕ). pooled category group side (entry_at ws' q)) e
            ∙ ap (pooled category group side) a.entry-struck
            ∙ pooled-elsewhere category group side (struck_entry (entry_at ws place)) other
            ∙ sym (ap (λ (q : ℕ). pooled category group side (entry_at ws q)) e ∙ pooled-elsewhere category group side (entry_at ws place) other))
            (λ (ne : p ≡ place → ⊥). ap (pooled category group side) (a.entry_kept p ne))
            (cases_eq p place);
        more_elsewhere = λ p i h. let z : ⊥ = omega (arith, a.same_entries) in absurd z;
      }

  -- a closing, of this category or another, changes no entry
  pub entries-shared : (closing : ℕ) (share : Side → ℕ → ℕ) → entries ws ≤ most_entries → CategoryClosed ws ws' closing share → EntriesUnmoved ws ws' category
  entries-shared closing share most a = entries-stay a.same_entries (λ p h. a.entry_kept p (omega arith))

  -- and of the elements nothing but shares
  pub elements_shared : (closing : ℕ) (share : Side → ℕ → ℕ) → CategoryClosed ws ws' closing share → ElementsUnmoved ws ws' category
  elements_shared closing share a =
      record {
        no_fewer = omega (arith, a.same_elements);
        same = λ p h f blind. measure-kept ws ws' closing share a f blind p h;
        more_elsewhere = λ p i h. let z : ⊥ = omega (arith, a.same_elements) in absurd z;
      }

  -- the pools are what they were: A and B
  pools-same : EntriesUnmoved ws ws' category → (group : ℕ) (side : Side) → pool ws' category group side ≡ pool ws category group side
  unfolding pool
  pools-same u group side =
      sum_kept (entries ws) (entries ws') (λ p. pooled category group side (entry_at ws p)) (λ p. pooled category group side (entry_at ws' p)) u.no_fewer
      (λ p h. u.same p h group side)
      (λ p i h. pooled-elsewhere category group side (entry_at ws' p) (u.more_elsewhere p i h))

  -- so is the sum of what the elements measure
  among_same : ElementsUnmoved ws ws' category → (recipients : Recipients) (f : Element → ℕ) → Blind f
      → sum_among ws' category recipients f ≡ sum_among ws category recipients f
  among_same u recipients f blind =
      sum_kept (elements ws) (elements ws') (λ p. among category recipients f (element_at ws p)) (λ p. among category recipients f (element_at ws' p))
      u.no_fewer
      (λ p h. u.same p h (among category recipients f) (λ r x y. rw (blind r x y)))
      (λ p i h. among-elsewhere category recipients f (element_at ws' p) (u.more_elsewhere p i h))

  -- F, C and S
  activities-same : ElementsUnmoved ws ws' category → (recipients : Recipients) → activity_among ws' category recipients ≡ activity_among ws category recipients
  unfolding activity_among
  activities-same u recipients = among_same u recipients (λ e. e.activity) (λ r x y. refl)

  -- P
  passengers-same : ElementsUnmoved ws ws' category → passengers_by_mass ws' category ≡ passengers_by_mass ws category
  unfolding passengers_by_mass
  passengers-same u = among_same u Passengers by_stated_mass (λ r x y. refl)

  -- and so is every exact share by these sums
  pub exact_same : EntriesUnmoved ws ws' category → ElementsUnmoved ws ws' category → (side : Side) (r : Element)
      → exact_of ws' category side r ≡ exact_of ws category side r
  unfolding exact_share
  exact_same u v side r =
      rw (
        pools-same u 0 side,
        pools-same u r.code side,
        activities-same v Freight,
        activities-same v Passengers,
        activities-same v (Group r.code),
        passengers-same v,
      )
