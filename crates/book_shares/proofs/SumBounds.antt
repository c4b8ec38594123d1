-- The sums of a category in a sound book are within their limits. Assumes nothing.
use mathlib.Core.Bool.{Bool, cond, true, false}
use mathlib.Core.List.{List}
use mathlib.Core.Path.{◌≡◌, refl}
use Prim.Native.Nat.{ℕ, ◌≤◌, ◌<◌, ◌*◌, ◌+◌, zero, suc}
use native.Mathlib.Nat.{le_trans}
use native.Mathlib.Omega.{arith}
use lib.Dec.{eqb}
use borrow.Author.Tests.{leb-true, lt-leb}
use Rattle.apportion.specs.Dividing.{most_pool, most_total}
use Rattle.book_words.specs.Book.{elements, element_at, entries, entry_at}
use Rattle.book_words.specs.Measures.{standard_activity, between, is_freight, by_stated_mass, by_standard_mass, is_passenger}
use Rattle.book_words.specs.Soundness.{sound}
use Rattle.book_words.specs.declared.totals.Side.{Side}
use Rattle.book_words.specs.Totals.{all_unstruck, unstruck, activities, most_activity, unstruck_of}
use Rattle.book_words.specs.declared.records.Element.{Element}
use Rattle.book_words.specs.declared.records.Entry.{Entry}
use Rattle.book_shares.specs.Sums.{Recipients, Freight, Passengers, pool, pooled, activity_among, among, passengers_by_mass, sum_among, receives}
use Rattle.apportion.proofs.Sums.{sum-le, sum-mul, sum-add, sum-cong}
use Rattle.book_words.proofs.Booleans.{cond-most}
use Rattle.book_words.proofs.Ranges.{between-low}
use Rattle.book_words.proofs.SoundRecords.{SoundFacts, sound-facts}
use Rattle.book_shares.proofs.ElementFacts.{Measured, fine-measured, tenfold, threefold-standard, threefold-activity, thousandfold, entry-grouped}

module _ (ws : List ℕ) (fine : sound ws ≡ true) where
  abbrev whole : SoundFacts ws
  whole = sound-facts ws fine

  -- the element at a place
  pub at_place : (p : ℕ) → p < elements ws → Measured (element_at ws p)
  at_place p h = fine-measured ws (element_at ws p) (whole.each-element p h)

  module _ (category : ℕ) where
    pub pool-limited : (group : ℕ) (side : Side) → pool ws category group side ≤ most_pool
    unfolding pool all_unstruck
    pool-limited group side =
        omega (
          arith,
          whole.limited side,
          sum-le (entries ws)
              (λ p. pooled category group side (entry_at ws p))
              (λ p. unstruck side (entry_at ws p))
              (λ p i. le_trans (cond-most (eqb (entry_at ws p).category category) _) (cond-most (eqb (entry_at ws p).group group) _)),
        )

    pub activity-limited : (recipients : Recipients) → activity_among ws category recipients ≤ most_total
    unfolding activity_among activities
    activity-limited recipients =
        let most =
        sum-le (elements ws)
        (λ p. among category recipients (λ e. e.activity) (element_at ws p))
        (λ p. 10 * standard_activity (element_at ws p))
        (λ p h.
        le_trans (cond-most (eqb (element_at ws p).category category) _)
        (le_trans (cond-most (receives recipients (element_at ws p).code) _) (tenfold (element_at ws p) (at_place p h)))) in
        omega (arith, most, sum-mul (elements ws) 10 (λ p. standard_activity (element_at ws p)), whole.active)

    -- F + P is at most three times the activity of ground 10, which counts 100 a head where P counts up to 300
    pub served-limited : activity_among ws category Freight + passengers_by_mass ws category ≤ 3 * most_activity
    unfolding activity_among passengers_by_mass activities standard_activity
    served-limited =
        let f : ℕ → ℕ = λ p. among category Freight (λ e. e.activity) (element_at ws p) in
        let g : ℕ → ℕ = λ p. among category Passengers by_stated_mass (element_at ws p) in
        omega (
          arith,
          sum-add (elements ws) f g,
          sum-le (elements ws) (λ p. f p + g p) (λ p. 3 * standard_activity (element_at ws p)) (λ p h. one (element_at ws p) (at_place p h)),
          sum-mul (elements ws) 3 (λ p. standard_activity (element_at ws p)),
          whole.active,
        )
      where
        one : (e : Element) → Measured e → among category Freight (λ x. x.activity) e + among category Passengers by_stated_mass e ≤ 3 * standard_activity e
        one e m = go (eqb e.category category) (is_freight e.code) refl
          where
            go : (t f : Bool) → is_freight e.code ≡ f
                → cond t (cond f e.activity 0) 0 + cond t (cond (is_passenger e.code) (by_stated_mass e) 0) 0 ≤ 3 * cond f e.activity (by_standard_mass e)
            go false f p = omega arith
            go true true p =
                let low = leb-true e.code 2 p in
                rw (lt-leb 100 e.code (omega arith)) (omega arith)
            go true false p = omega (arith, cond-most (is_passenger e.code) (by_stated_mass e), threefold-standard e m p)

    -- a sum over elements that each measure no more by one measure than so many times what they do by another
    among-le : (recipients : Recipients) (times : ℕ) (f g : Element → ℕ)
        → ((e : Element) → Measured e → receives recipients e.code ≡ true → f e ≤ times * g e)
        → sum_among ws category recipients f ≤ times * sum_among ws category recipients g
    among-le recipients times f g less =
        omega (
          arith,
          sum-le (elements ws) (λ p. among category recipients f (element_at ws p)) (λ p. times * among category recipients g (element_at ws p))
              (λ p h. one (element_at ws p) (at_place p h)),
          sum-mul (elements ws) times (λ p. among category recipients g (element_at ws p)),
        )
      where
        one : (e : Element) → Measured e → among category recipients f e ≤ times * among category recipients g e
        one e m = go (eqb e.category category) (receives recipients e.code) refl
          where
            go : (t b : Bool) → receives recipients e.code ≡ b → cond t (cond b (f e) 0) 0 ≤ times * cond t (cond b (g e) 0) 0
            go false b p = omega arith
            go true false p = omega arith
            go true true p = less e m p

    -- a code from 100 to 1000 is none of freight
    above : (e : Element) → between 100 1000 e.code ≡ true → is_freight e.code ≡ false
    above e h = lt-leb e.code 2 (omega (arith, between-low 100 1000 e.code h))

    -- P is at most three times C, and C at most a thousand times P
    pub mass-most : passengers_by_mass ws category ≤ 3 * activity_among ws category Passengers
    unfolding activity_among passengers_by_mass
    mass-most = among-le Passengers 3 by_stated_mass (λ e. e.activity) (λ e m h. threefold-activity e m (above e h))

    pub activity-most : activity_among ws category Passengers ≤ 1000 * passengers_by_mass ws category
    unfolding activity_among passengers_by_mass
    activity-most = among-le Passengers 1000 (λ e. e.activity) by_stated_mass (λ e m h. thousandfold e m (above e h))

    -- A, B1 and B2 are the category's unstruck entries
    pub pools-add : (side : Side) → pool ws category 0 side + pool ws category 1 side + pool ws category 2 side ≡ unstruck_of ws category side
    unfolding pool unstruck_of
    pools-add side =
        let f : ℕ → ℕ → ℕ = λ g p. pooled category g side (entry_at ws p) in
        omega (
          arith,
          sum-add (entries ws) (f 0) (f 1),
          sum-add (entries ws) (λ p. f 0 p + f 1 p) (f 2),
          sum-cong (entries ws) (λ p. f 0 p + f 1 p + f 2 p) (λ p. cond (eqb (entry_at ws p).category category) (unstruck side (entry_at ws p)) 0)
              (λ p h. one (entry_at ws p) (entry-grouped ws (entry_at ws p) (whole.each-entry p h))),
        )
      where
        one : (e : Entry) → e.group ≤ 2
            → pooled category 0 side e + pooled category 1 side e + pooled category 2 side e
            ≡ cond (eqb e.category category) (unstruck side e) 0
        one e h = go (eqb e.category category) e.group h
          where
            go : (t : Bool) (g : ℕ) → g ≤ 2
                → cond t (cond (eqb g 0) (unstruck side e) 0) 0 + cond t (cond (eqb g 1) (unstruck side e) 0) 0 + cond t (cond (eqb g 2) (unstruck side e) 0) 0
                ≡ cond t (unstruck side e) 0
            go false g h = refl
            go true zero h = omega arith
            go true (suc zero) h = omega arith
            go true (suc (suc zero)) h = omega arith
            go true (suc (suc (suc n))) h = let z : ⊥ = omega arith in absurd z
