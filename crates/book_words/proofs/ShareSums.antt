-- What is handed out in a sound book: its shares by categories and by chains. Assumes nothing.
use mathlib.Core.Bool.{Bool, true, false, ◌&&◌, cond}
use mathlib.Core.List.{List}
use mathlib.Core.Logic.{⊎_elim}
use mathlib.Core.Path.{◌≡◌, refl, sym, ◌∙◌, ap}
use Prim.Native.Nat.{ℕ, ◌+◌, ◌-◌, ◌≤◌, ◌<◌}
use native.Mathlib.Nat.{add-zero, eq-zero-or-pos}
use native.Mathlib.Omega.{arith}
use lib.Dec.{eqb}
use borrow.Author.Tests.{eqb-true, eqb-false, not-true, not-false}
use Rattle.std.proofs.lemmas.Bool.{and_parts}
use Rattle.apportion.specs.Places.{sum_below}
use Rattle.book_words.specs.Book.{categories, category_at, category_of, entries, entry_at, elements, element_at, is_closed}
use Rattle.book_words.specs.Measures.{is_chain, most_chains}
use Rattle.book_words.specs.Soundness.{sound, element_suits}
use Rattle.book_words.specs.declared.totals.Side.{Side}
use Rattle.book_words.specs.declared.totals.Side.TheVariants.{Operation as operation, Provision as provision}
use Rattle.book_words.specs.Totals.{most_emissions, share_of, unstruck, shares_of, unstruck_of, all_unstruck}
use Rattle.book_words.specs.declared.records.Element.{Element}
use Rattle.apportion.proofs.Sums.{sum-cong, sum-le, sum-zero}
use Rattle.book_words.proofs.Booleans.{cond-cong, cond_same, cond-most}
use Rattle.book_words.proofs.Ranges.{between-low, between-high}
use Rattle.book_words.proofs.RecordRules.{entry-inside, element-quoted, element-numbered, suits-parts, quoted-parts, element-category}
use Rattle.book_words.proofs.SoundRecords.{SoundFacts, sound-facts}
use Rattle.book_words.proofs.SumsByKey.{sum_first, sum-by-key}

-- shares that wait are 0
waiting_none : (t : Bool) (r : Element) → t ≡ true → cond t (eqb r.operation 0 && eqb r.provision 0) true ≡ true → (side : Side) → share_of side r ≡ 0
waiting_none t r is e operation = eqb-true r.operation 0 (and_parts (eqb r.operation 0) (eqb r.provision 0) (rw is at e)).0
waiting_none t r is e provision = eqb-true r.provision 0 (and_parts (eqb r.operation 0) (eqb r.provision 0) (rw is at e)).1

-- what is 0 where the number is met adds nothing
met-none : (category number n : ℕ) → (category ≡ number → n ≡ 0) → cond (eqb category number) n 0 ≡ 0
met-none category number n none =
    cond-cong (eqb category number) n 0 (λ e. none (eqb-true category number e)) ∙ cond_same (eqb category number) 0

-- all shares, what an entry adds where its category is closed, and what the entries of a category add where it is closed
abbrev all_shares : List ℕ → Side → ℕ
all_shares ws side = sum_below (elements ws) (λ p. share_of side (element_at ws p))

abbrev closed_unstruck : List ℕ → Side → ℕ → ℕ
closed_unstruck ws side p = cond (is_closed ws (entry_at ws p).category) (unstruck side (entry_at ws p)) 0

abbrev closed_in : List ℕ → Side → ℕ → ℕ
closed_in ws side number = sum_below (entries ws) (λ p. cond (eqb (entry_at ws p).category number) (closed_unstruck ws side p) 0)

module _ (ws : List ℕ) (fine : sound ws ≡ true) where
  -- the facts of the book
  whole : SoundFacts ws
  whole = sound-facts ws fine

  -- an element's category is one of the book's, or 0
  pub category-inside : (p : ℕ) → p < elements ws → (element_at ws p).category ≤ categories ws
  category-inside p h = element-category ws (element_at ws p) (whole.each-element p h)

  -- an entry's category is one of the book's
  pub entry-category : (p : ℕ) → p < entries ws → (1 ≤ (entry_at ws p).category) × ((entry_at ws p).category ≤ categories ws)
  entry-category p h =
      let inside = entry-inside ws (entry_at ws p) (whole.each-entry p h) in
      (between-low 1 (categories ws) (entry_at ws p).category inside, between-high 1 (categories ws) (entry_at ws p).category inside)

  -- an enrolled element suits its category
  element-suited : (p : ℕ) → p < elements ws → ((element_at ws p).category ≡ 0 → ⊥)
      → element_suits (category_of ws (element_at ws p).category) (element_at ws p) ≡ true
  element-suited p h enrolled = element-numbered ws (element_at ws p) enrolled (category-inside p h) ∙ whole.each-element p h

  -- the shares of an element in an open category are 0
  pub open-shares : (p : ℕ) → p < elements ws → ((element_at ws p).category ≡ 0 → ⊥) → is_closed ws (element_at ws p).category ≡ false
      → (side : Side) → share_of side (element_at ws p) ≡ 0
  open-shares p h enrolled unclosed =
      let k = category_of ws (element_at ws p).category in
      waiting_none (eqb k.closed 0) (element_at ws p) (not-false (eqb k.closed 0) unclosed)
      (suits-parts k (element_at ws p) (element-suited p h enrolled)).shares_waiting

  -- an element's chain is from 1 to 10,000
  pub chain-inside : (p : ℕ) → p < elements ws → (1 ≤ (element_at ws p).chain) × ((element_at ws p).chain ≤ most_chains)
  chain-inside p h =
      let inside : is_chain (element_at ws p).chain ≡ true =
      ⊎_elim
      (λ (none : (element_at ws p).category ≡ 0). (quoted-parts (element_at ws p) (element-quoted ws (element_at ws p) none ∙ whole.each-element p h)).known_chain)
      (λ (some : 0 < (element_at ws p).category).
      (suits-parts (category_of ws (element_at ws p).category) (element_at ws p) (element-suited p h (λ z. omega arith))).known_chain)
      (eq-zero-or-pos (element_at ws p).category) in
      (between-low 1 most_chains (element_at ws p).chain inside, between-high 1 most_chains (element_at ws p).chain inside)

  -- all shares are the shares in the categories and the quoted shares
  shares-by-category : (side : Side) → all_shares ws side ≡ shares_of ws 0 side + sum_below (categories ws) (λ j. shares_of ws (j + 1) side)
  unfolding shares_of
  shares-by-category side =
      let kept : ℕ → ℕ = λ number. sum_below (elements ws) (λ p. cond (eqb (element_at ws p).category number) (share_of side (element_at ws p)) 0) in
      sym
      (sum-by-key 0 (categories ws + 1) (elements ws) (λ p. (element_at ws p).category) (λ p. share_of side (element_at ws p))
      (λ p h. (omega arith, omega (arith, category-inside p h))))
      ∙ sum-cong (categories ws + 1) (λ j. kept (j + 0)) kept (λ j h. ap kept (add-zero j))
      ∙ sum_first (categories ws) kept

  -- the shares in a category are its unstruck entries where it is closed
  category-handed : (side : Side) (j : ℕ) → j < categories ws → shares_of ws (j + 1) side ≡ closed_in ws side (j + 1)
  unfolding shares_of unstruck_of
  category-handed side j h = go (is_closed ws (j + 1)) refl
    where
      go : (t : Bool) → is_closed ws (j + 1) ≡ t → shares_of ws (j + 1) side ≡ closed_in ws side (j + 1)
      go true e =
          let back : j + 1 - 1 ≡ j = omega arith in
          let is = eqb-false (category_of ws (j + 1)).closed 0 (not-true (eqb (category_of ws (j + 1)).closed 0) e) in
          whole.balanced j h (λ z. is (ap (λ (q : ℕ). (category_at ws q).closed) back ∙ z)) side
          ∙ sum-cong (entries ws)
          (λ p. cond (eqb (entry_at ws p).category (j + 1)) (unstruck side (entry_at ws p)) 0)
          (λ p. cond (eqb (entry_at ws p).category (j + 1)) (closed_unstruck ws side p) 0)
          (λ p i.
          cond-cong (eqb (entry_at ws p).category (j + 1)) (unstruck side (entry_at ws p)) (closed_unstruck ws side p)
          (λ same. rw (eqb-true (entry_at ws p).category (j + 1) same, e)))
      go false e =
          sum-zero (elements ws)
          (λ p. cond (eqb (element_at ws p).category (j + 1)) (share_of side (element_at ws p)) 0)
          (λ p i.
          met-none (element_at ws p).category (j + 1) (share_of side (element_at ws p))
          (λ z. open-shares p i (λ none. omega arith) (ap (is_closed ws) z ∙ e) side))
          ∙ sym
          (sum-zero (entries ws)
          (λ p. cond (eqb (entry_at ws p).category (j + 1)) (closed_unstruck ws side p) 0)
          (λ p i. met-none (entry_at ws p).category (j + 1) (closed_unstruck ws side p) (λ z. rw (z, e))))

  -- all shares are the unstruck entries of closed categories and the quoted shares
  pub shares-all : (side : Side) → all_shares ws side ≡ sum_below (entries ws) (λ p. closed_unstruck ws side p) + shares_of ws 0 side
  shares-all side =
      let in-categories =
      sum-cong (categories ws)
      (λ j. shares_of ws (j + 1) side)
      (λ j. closed_in ws side (j + 1))
      (category-handed side) in
      let gathered =
      sum-by-key 1 (categories ws) (entries ws) (λ p. (entry_at ws p).category) (closed_unstruck ws side)
      (λ p h. ((entry-category p h).0, omega (arith, (entry-category p h).1))) in
      omega (arith, shares-by-category side, in-categories, gathered)

  -- and so they are within 10^18
  pub shares-limited : (side : Side) → all_shares ws side ≤ most_emissions
  unfolding all_unstruck
  shares-limited side =
      omega (
        arith,
        shares-all side,
        whole.limited side,
        sum-le (entries ws)
            (closed_unstruck ws side)
            (λ p. unstruck side (entry_at ws p))
            (λ p h. cond-most (is_closed ws (entry_at ws p).category) (unstruck side (entry_at ws p))),
      )

  -- a sum over the elements by chains, from 1 to 10,000, is the sum over all elements
  pub sum-by-chain : (number : Element → ℕ)
      → sum_below most_chains (λ j. sum_below (elements ws) (λ p. cond (eqb (element_at ws p).chain (j + 1)) (number (element_at ws p)) 0))
      ≡ sum_below (elements ws) (λ p. number (element_at ws p))
  sum-by-chain number =
      sum-by-key 1 most_chains (elements ws) (λ p. (element_at ws p).chain) (λ p. number (element_at ws p))
      (λ p h. ((chain-inside p h).0, omega (arith, (chain-inside p h).1)))
