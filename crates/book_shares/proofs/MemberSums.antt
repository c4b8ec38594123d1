-- The elements of a category by their places: sums, weights and divisions over these places alone are those over all
-- places. Assumes nothing.
use mathlib.Core.Bool.{Bool, true, false, cond}
use mathlib.Core.List.{List, [], ◌∷◌, ◌++◌, append-nil}
use mathlib.Core.Logic.{⊎_elim, inl, inr}
use mathlib.Core.Path.{◌≡◌, sym, ap, ◌∙◌}
use Prim.Native.Nat.{ℕ, zero, suc, ◌+◌, ◌≤◌, ◌<◌, ◌*◌}
use native.Mathlib.Omega.{arith}
use lib.ListN.{length, take, length-append, get_or-append}
use lib.Seq.{get_or_at, length-take-le}
use Rattle.std.proofs.lemmas.Bool.{cases_lt}
use Rattle.apportion.specs.Dividing.{divided, Divisible, most_total}
use Rattle.apportion.specs.Places.{at, count_below, kept_below, kept, sum_of, sum_below}
use Rattle.book_words.specs.Book.{elements, element_at, most_elements}
use Rattle.book_words.specs.Measures.{by_stated_mass}
use Rattle.book_words.specs.Soundness.{sound}
use Rattle.book_words.specs.Totals.{most_activity}
use Rattle.book_words.specs.declared.records.Element.{Element}
use Rattle.book_shares.specs.Inner.Members.{is_member, members, at_places, activity_in, weights_at, sum_at, activity_at, mass_at}
use Rattle.book_shares.specs.Shares.{weights, part_at}
use Rattle.book_shares.specs.Sums.{Recipients, Freight, Passengers, if_recipient, among, sum_among, activity_among, passengers_by_mass}
use Rattle.apportion.proofs.Laws.{shares-length}
use Rattle.apportion.proofs.Lists.{list_length, list-sum}
use Rattle.apportion.proofs.PlacesLeftOut.{kept-length, kept_at, sum_kept, list-kept, divided-kept}
use Rattle.apportion.proofs.Sums.{count_most}
use Rattle.book_words.proofs.SoundTests.{sound-counted}
use Rattle.book_shares.proofs.SumBounds.{activity-limited, served-limited}
use Rattle.book_shares.proofs.ClosingShares.{weights-length, weights-sum, weight-at, weight-none}

-- the places that are kept are places
kept-inside : (n : ℕ) (keep : ℕ → Bool) (i : ℕ) → i < length (kept_below n keep (λ p. p)) → at (kept_below n keep (λ p. p)) i < n
kept-inside zero keep i h = let z : ⊥ = omega arith in absurd z
kept-inside (suc n) keep i h = go (keep n) h (kept-inside n keep i)
  where
    go : (t : Bool) → i < length (kept_below n keep (λ p. p) ++ cond t (n ∷ []) [])
        → (i < length (kept_below n keep (λ p. p)) → at (kept_below n keep (λ p. p)) i < n)
        → at (kept_below n keep (λ p. p) ++ cond t (n ∷ []) []) i < suc n
    go true l rest =
        ⊎_elim
        (λ (here : i < length (kept_below n keep (λ p. p))).
        omega (arith, get_or-append (kept_below n keep (λ p. p)) (n ∷ []) 0 i here, rest here))
        (λ (past : length (kept_below n keep (λ p. p)) ≤ i).
        let last : length (kept_below n keep (λ p. p)) ≡ i = omega (arith, length-append (kept_below n keep (λ p. p)) (n ∷ [])) in
        omega (arith, get_or_at (kept_below n keep (λ p. p)) n [] 0 i last))
        (cases_lt i (length (kept_below n keep (λ p. p))))
    go false l rest = rw append-nil (omega (arith, rest (rw append-nil at l)))

module _ (ws : List ℕ) (category : ℕ) where
  pub members-length : length (members ws category) ≡ count_below (elements ws) (is_member ws category)
  unfolding members
  members-length = kept-length (is_member ws category) (elements ws) (λ p. p)

  pub members-few : sound ws ≡ true → length (members ws category) ≤ most_elements
  members-few fine =
      omega (arith, members-length, count_most (elements ws) (is_member ws category), (sound-counted ws fine).elements_most)

  -- the place of an element of the category, after those before it
  pub member-at : (p : ℕ) → p < elements ws → is_member ws category p ≡ true → at (members ws category) (count_below p (is_member ws category)) ≡ p
  unfolding members
  member-at p h e = kept_at (is_member ws category) (elements ws) (λ q. q) p h e

  pub members-inside : (i : ℕ) → i < length (members ws category) → at (members ws category) i < elements ws
  unfolding members
  members-inside = kept-inside (elements ws) (is_member ws category)

  -- the element at the place that stands here in the list
  abbrev listed-element : ℕ → Element
  listed-element i = element_at ws (at (members ws category) i)

  -- a sum over the category's elements
  sum-members : (recipients : Recipients) (measure : Element → ℕ)
      → sum_below (length (members ws category)) (λ i. if_recipient recipients (listed-element i).code (measure (listed-element i)))
      ≡ sum_among ws category recipients measure
  sum-members recipients measure =
      rw members-length
      (sum_kept (is_member ws category) (elements ws)
      (λ i. if_recipient recipients (listed-element i).code (measure (listed-element i)))
      (λ p. among category recipients measure (element_at ws p))
      (λ p h e. rw (member-at p h e, e))
      (λ p h e. rw e))

  pub activity-members : (recipients : Recipients) → activity_at ws (members ws category) recipients ≡ activity_among ws category recipients
  unfolding sum_at activity_among
  activity-members recipients = sum-members recipients (λ e. e.activity)

  pub mass-members : mass_at ws (members ws category) ≡ passengers_by_mass ws category
  unfolding sum_at passengers_by_mass
  mass-members = sum-members Passengers by_stated_mass

  -- a list over all places, at those of the category's elements
  kept-members : (xs : List ℕ) → length xs ≡ elements ws → kept (is_member ws category) xs ≡ at_places (members ws category) (at xs)
  kept-members xs e =
      rw (e, members-length)
      (sym (list-kept (is_member ws category) (elements ws) (λ i. at xs (at (members ws category) i)) (at xs)
      (λ p h is. ap (at xs) (member-at p h is))))

  module _ (recipients : Recipients) where
    weights-members : weights_at ws (members ws category) recipients ≡ kept (is_member ws category) (weights ws category recipients)
    unfolding weights_at
    weights-members =
        rw (members-length, weights-length ws category recipients)
        (list-kept (is_member ws category) (elements ws)
        (λ i. activity_in recipients (listed-element i))
        (at (weights ws category recipients))
        (λ p h e. rw (member-at p h e, weight-at ws category recipients p h, e)))

    -- what each of the category's elements gets of a pool
    pub parts-members : (amount : ℕ) → Divisible amount (weights ws category recipients)
        → divided amount (weights_at ws (members ws category) recipients) ≡ at_places (members ws category) (part_at ws category recipients amount)
    unfolding part_at
    parts-members amount divisible =
        ap (divided amount) weights-members
        ∙ divided-kept amount (weights ws category recipients) (is_member ws category) (λ p h e. weight-none ws category recipients p (rw e)) divisible
        ∙ kept-members (divided amount (weights ws category recipients))
        (shares-length amount (weights ws category recipients) ∙ weights-length ws category recipients)

-- the weights at some places
module _ (ws places : List ℕ) (recipients : Recipients) where
  pub weights-at-length : length (weights_at ws places recipients) ≡ length places
  unfolding weights_at
  weights-at-length = list_length (length places) _

  pub weights-at-sum : sum_of (weights_at ws places recipients) ≡ activity_at ws places recipients
  unfolding weights_at sum_at
  weights-at-sum = list-sum (length places) _

-- a pool that can be divided over the book can be divided over the category's elements
pub divisible-members : (ws : List ℕ) (category : ℕ) (recipients : Recipients) (amount : ℕ) → Divisible amount (weights ws category recipients)
    → Divisible amount (weights_at ws (members ws category) recipients)
divisible-members ws category recipients amount =
    ⊎_elim
    (λ (some : 0 < sum_of (weights ws category recipients)).
    inl (omega (arith, weights-sum ws category recipients, weights-at-sum ws (members ws category) recipients, activity-members ws category recipients)))
    (λ (none : amount ≡ 0). inr none)

-- the places of the elements of a category in a sound book
module _ (ws : List ℕ) (category : ℕ) (places : List ℕ) (fine : sound ws ≡ true) (are : places ≡ members ws category) where
  pub listed_inside : (i : ℕ) → i < length places → at places i < elements ws
  listed_inside i h = rw are (members-inside ws category i (rw are at h))

  pub listed_few : length places ≤ most_elements
  listed_few = rw are (members-few ws category fine)

  -- so much of an array is as long as they are many
  pub listed_cut : (xs : List ℕ) → most_elements ≤ length xs → length places ≡ length (take (length places) xs)
  listed_cut xs long = sym (length-take-le (length places) xs (omega (arith, listed_few)))

  pub listed_activity : (recipients : Recipients) → activity_at ws places recipients ≤ most_total
  listed_activity recipients =
      rw (are, activity-members ws category recipients) (activity-limited ws fine category recipients)

  -- F and P together
  pub listed_served : activity_at ws places Freight + mass_at ws places ≤ 3 * most_activity
  listed_served =
      rw (are, activity-members ws category Freight, mass-members ws category) (served-limited ws fine category)
