-- The laws of the shares that a closing writes. Assumes nothing.
use mathlib.Core.Bool.{Bool, true, false, cond, ◌&&◌}
use mathlib.Core.List.{List, ◌∷◌, []}
use mathlib.Core.Logic.{inl, ⊎_elim}
use mathlib.Core.Path.{◌≡◌, refl, sym, ap, ◌∙◌}
use Prim.Native.Nat.{ℕ, ◌+◌, ◌*◌, ◌≤◌, ◌<◌}
use native.Mathlib.Nat.{eq-zero-or-pos, eq-or-lt_of_le}
use native.Mathlib.Omega.{arith}
use lib.Dec.{eqb}
use lib.ListN.{length}
use borrow.Author.Tests.{eq-eqb, ne_eqb, le-leb, lt-leb}
use Rattle.std.proofs.lemmas.Bool.{and_from, and_right, cases_lt}
use Rattle.apportion.specs.Dividing.{divided, Divisible}
use Rattle.apportion.specs.Fractions.{over, plus}
use Rattle.apportion.specs.Nearness.{Within}
use Rattle.apportion.specs.Places.{sum_below, at, sum_of, kept}
use Rattle.book_words.specs.Book.{elements, element_at}
use Rattle.book_words.specs.Measures.{between, is_code}
use Rattle.book_words.specs.declared.totals.Side.{Side}
use Rattle.book_shares.specs.declared.sharing.Parts.{Parts}
use Rattle.book_shares.specs.Shares.{divided_all, freight_part, passenger_part, weights, part_at, closing_share, exact_share, exact_of}
use Rattle.book_shares.specs.Sums.{Recipients, Group, Freight, Passengers, pool, among, activity_among, passengers_by_mass, if_recipient, receives}
use Rattle.apportion.proofs.Laws.{shares-length, shares_sum, share-of-zero, share-near}
use Rattle.apportion.proofs.Lists.{list_length, list_at, list-past, list-sum}
use Rattle.apportion.proofs.PlacesLeftOut.{divided-kept}
use Rattle.apportion.proofs.Sums.{sum-add, sum-some}
use Rattle.book_words.proofs.Ranges.{between-outside}
use Rattle.book_shares.proofs.Nearness.{near-chain, near-cancel, near-plus, near-weaken}

-- the sum of a list of two
pub sum-two : (xs : List ℕ) → length xs ≡ 2 → sum_of xs ≡ at xs 0 + at xs 1
unfolding sum_of
sum-two xs e = rw e (omega arith)

-- the exact share by its code
module _ (A F P C : ℕ) (B S : ℕ → ℕ) (code activity : ℕ) where
  exact-ambient : code ≡ 0 → exact_share A F P C B S code activity ≡ over (A * activity) (F + P)
  unfolding exact_share
  exact-ambient e = rw e

  exact-grouped : 0 < code → code ≤ 2
      → exact_share A F P C B S code activity ≡ plus (over (A * activity) (F + P)) (over (B code * activity) (S code))
  unfolding exact_share
  exact-grouped some l = rw (le-leb code 2 l, ne_eqb code 0 (λ e. omega arith))

  exact-passengers : 2 < code → exact_share A F P C B S code activity ≡ over (A * P * activity) ((F + P) * C)
  unfolding exact_share
  exact-passengers g = rw (lt-leb code 2 g)

-- "F+P" is above 0
abbrev pub ToDivideBy : List ℕ → ℕ → Type 0
ToDivideBy ws category = 0 < activity_among ws category Freight + passengers_by_mass ws category

-- the two parts of A
abbrev pub parts_of : List ℕ → ℕ → Side → Parts
parts_of ws category side = record { freight = freight_part ws category side; passengers = passenger_part ws category side }

-- the elements that a pool goes to, and what each gets of it
module _ (ws : List ℕ) (category : ℕ) (recipients : Recipients) where
  -- the pool goes to the element at this place
  abbrev pub receives_part : ℕ → Bool
  receives_part p = eqb (element_at ws p).category category && receives recipients (element_at ws p).code

  pub goes-here : (p : ℕ) → (element_at ws p).category ≡ category → receives recipients (element_at ws p).code ≡ true → receives_part p ≡ true
  goes-here p same e =
      and_from (eqb (element_at ws p).category category) (receives recipients (element_at ws p).code)
      (eq-eqb (element_at ws p).category category same) e

  pub goes-elsewhere : (p : ℕ) → ((element_at ws p).category ≡ category → ⊥) → receives_part p ≡ false
  goes-elsewhere p other = rw (ne_eqb (element_at ws p).category category other)

  pub goes-outside : (p : ℕ) → receives recipients (element_at ws p).code ≡ false → receives_part p ≡ false
  goes-outside p other = and_right (eqb (element_at ws p).category category) (receives recipients (element_at ws p).code) other

  -- the weight of the element at this place
  abbrev weight : ℕ → ℕ
  weight p = among category recipients (λ e. e.activity) (element_at ws p)

  weight_is : (p : ℕ) → weight p ≡ cond (receives_part p) (element_at ws p).activity 0
  weight_is p = go (eqb (element_at ws p).category category)
    where
      go : (here : Bool) → cond here (if_recipient recipients (element_at ws p).code (element_at ws p).activity) 0
          ≡ cond (here && receives recipients (element_at ws p).code) (element_at ws p).activity 0
      go true = refl
      go false = refl

  -- there is a weight for every element, and together they are the activity
  pub weights-length : length (weights ws category recipients) ≡ elements ws
  unfolding weights
  weights-length = list_length (elements ws) weight

  pub weights-sum : sum_of (weights ws category recipients) ≡ activity_among ws category recipients
  unfolding weights activity_among
  weights-sum = list-sum (elements ws) weight

  pub weight-at : (p : ℕ) → p < elements ws → at (weights ws category recipients) p ≡ among category recipients (λ e. e.activity) (element_at ws p)
  unfolding weights
  weight-at p h = list_at (elements ws) weight p h

  -- an element that the pool does not go to has weight 0, and so has a place past the elements
  pub weight-none : (p : ℕ) → receives_part p ≡ false → at (weights ws category recipients) p ≡ 0
  unfolding weights
  weight-none p e =
      ⊎_elim
      (λ (here : p < elements ws). weight-at p here ∙ weight_is p ∙ (rw e))
      (λ (past : elements ws ≤ p). list-past (elements ws) weight p past)
      (cases_lt p (elements ws))

  -- and it gets nothing
  pub part_none : (amount : ℕ) → Divisible amount (weights ws category recipients) → (p : ℕ) → receives_part p ≡ false
      → part_at ws category recipients amount p ≡ 0
  unfolding part_at
  part_none amount divisible p e = share-of-zero amount (weights ws category recipients) divisible p (weight-none p e)

  -- the elements that a pool goes to get what they would get alone
  pub alone : (amount : ℕ) → Divisible amount (weights ws category recipients)
      → kept receives_part (divided amount (weights ws category recipients)) ≡ divided amount (kept receives_part (weights ws category recipients))
  alone amount divisible = sym (divided-kept amount (weights ws category recipients) receives_part (λ p h e. weight-none p e) divisible)

  -- all parts together are the pool
  pub parts-sum : (amount : ℕ) → Divisible amount (weights ws category recipients) → sum_below (elements ws) (part_at ws category recipients amount) ≡ amount
  unfolding part_at sum_of
  parts-sum amount divisible =
      rw (shares-length amount (weights ws category recipients), weights-length) at (shares_sum amount (weights ws category recipients) divisible)

  -- the activity of an element that the pool goes to is one of those that it is divided by
  pub activity-within : (p : ℕ) → p < elements ws → receives_part p ≡ true → (element_at ws p).activity ≤ activity_among ws category recipients
  unfolding activity_among
  activity-within p h e = rw (weight_is p, e) at (sum-some (elements ws) weight p h)

  -- and its part is near to its exact part of the pool
  pub part-near : (amount p : ℕ) → p < elements ws → receives_part p ≡ true → 0 < (element_at ws p).activity
      → Within 1 (part_at ws category recipients amount p) (amount * (element_at ws p).activity) (activity_among ws category recipients)
  unfolding part_at
  part-near amount p h e some =
      rw (weights-sum, weight-at p h ∙ weight_is p, e)
      at (share-near amount (weights ws category recipients) (rw weights-sum (omega (arith, activity-within p h e))) p)

module _ (ws : List ℕ) (category : ℕ) (side : Side) where
  -- what the four divisions of a closing need
  pub record Divisions : Type 0 where
    pub served : ToDivideBy ws category
    pub freight-divisible : Divisible (freight_part ws category side) (weights ws category Freight)
    pub passengers-divisible : Divisible (passenger_part ws category side) (weights ws category Passengers)
    pub chilled-divisible : Divisible (pool ws category 1 side) (weights ws category (Group 1))
    pub frozen-divisible : Divisible (pool ws category 2 side) (weights ws category (Group 2))

  -- the two weights of A
  abbrev both-weights : List ℕ
  both-weights = activity_among ws category Freight ∷ passengers_by_mass ws category ∷ []

  both_some : ToDivideBy ws category → 0 < sum_of both-weights
  both_some served = rw (sum-two both-weights refl) served

  -- A is divided whole
  pub parts_add : ToDivideBy ws category → freight_part ws category side + passenger_part ws category side ≡ pool ws category 0 side
  unfolding divided_all
  parts_add served =
      let A = pool ws category 0 side in
      sym (sum-two (divided A both-weights) (shares-length A both-weights)) ∙ shares_sum A both-weights (inl (both_some served))

  -- and each part of it is near to its exact part
  all_near : ToDivideBy ws category → (k : ℕ)
      → Within 1 (at (divided_all ws category side) k)
      (pool ws category 0 side * at both-weights k)
      (activity_among ws category Freight + passengers_by_mass ws category)
  unfolding divided_all
  all_near served k = rw (sum-two both-weights refl) at (share-near (pool ws category 0 side) both-weights (both_some served) k)

  -- The shares of a closing sum to the unstruck entries.
  pub shares-add : Divisions
      → sum_below (elements ws) (closing_share ws category side) ≡ pool ws category 0 side + pool ws category 1 side + pool ws category 2 side
  unfolding closing_share
  shares-add h =
      let n = elements ws in
      let a = part_at ws category Freight (freight_part ws category side) in
      let b = part_at ws category Passengers (passenger_part ws category side) in
      let c = part_at ws category (Group 1) (pool ws category 1 side) in
      let d = part_at ws category (Group 2) (pool ws category 2 side) in
      omega (
        arith,
        sum-add n (λ p. a p + b p + c p) d,
        sum-add n (λ p. a p + b p) c,
        sum-add n a b,
        parts-sum ws category Freight (freight_part ws category side) h.freight-divisible,
        parts-sum ws category Passengers (passenger_part ws category side) h.passengers-divisible,
        parts-sum ws category (Group 1) (pool ws category 1 side) h.chilled-divisible,
        parts-sum ws category (Group 2) (pool ws category 2 side) h.frozen-divisible,
        parts_add h.served,
      )

-- what an element gets of the freight part, of the passenger part, and of the pool of a group
module _ (ws : List ℕ) (category : ℕ) (side : Side) (p : ℕ) where
  abbrev freight_share : ℕ
  freight_share = part_at ws category Freight (freight_part ws category side) p

  abbrev passenger_share : ℕ
  passenger_share = part_at ws category Passengers (passenger_part ws category side) p

  abbrev group_share : ℕ → ℕ
  group_share g = part_at ws category (Group g) (pool ws category g side) p

module _ (ws : List ℕ) (category : ℕ) (side : Side) (h : Divisions ws category side) (p : ℕ) where
  freight-none : receives_part ws category Freight p ≡ false → freight_share ws category side p ≡ 0
  freight-none = part_none ws category Freight (freight_part ws category side) h.freight-divisible p

  passengers-none : receives_part ws category Passengers p ≡ false → passenger_share ws category side p ≡ 0
  passengers-none = part_none ws category Passengers (passenger_part ws category side) h.passengers-divisible p

  chilled-none : receives_part ws category (Group 1) p ≡ false → group_share ws category side p 1 ≡ 0
  chilled-none = part_none ws category (Group 1) (pool ws category 1 side) h.chilled-divisible p

  frozen-none : receives_part ws category (Group 2) p ≡ false → group_share ws category side p 2 ≡ 0
  frozen-none = part_none ws category (Group 2) (pool ws category 2 side) h.frozen-divisible p

  -- An element of another category gets nothing.
  pub share-elsewhere : ((element_at ws p).category ≡ category → ⊥) → closing_share ws category side p ≡ 0
  unfolding closing_share
  share-elsewhere other =
      omega (
        arith,
        freight-none (goes-elsewhere ws category Freight p other),
        passengers-none (goes-elsewhere ws category Passengers p other),
        chilled-none (goes-elsewhere ws category (Group 1) p other),
        frozen-none (goes-elsewhere ws category (Group 2) p other),
      )

-- an element of the category with an activity
module _ (ws : List ℕ) (category : ℕ) (side : Side) (h : Divisions ws category side) (p : ℕ) (here : p < elements ws)
    (same : (element_at ws p).category ≡ category) (some : 0 < (element_at ws p).activity) where
  abbrev code : ℕ
  code = (element_at ws p).code

  abbrev activity : ℕ
  activity = (element_at ws p).activity

  abbrev A : ℕ
  A = pool ws category 0 side

  abbrev F : ℕ
  F = activity_among ws category Freight

  abbrev P : ℕ
  P = passengers_by_mass ws category

  -- its share of the freight part (k is 0) or of the passenger part (k is 1) of A
  of-all-near : (k : ℕ) (recipients : Recipients) → receives_part ws category recipients p ≡ true
      → Within 2 (part_at ws category recipients (at (divided_all ws category side) k) p)
      (A * at (F ∷ P ∷ []) k * activity)
      ((F + P) * activity_among ws category recipients)
  of-all-near k recipients e =
      near-chain (all_near ws category side h.served k)
      (part-near ws category recipients (at (divided_all ws category side) k) p here e some)
      (activity-within ws category recipients p here e)

  -- F, by which the freight part was found and is divided, cancels
  freight-near : code ≤ 2 → Within 2 (freight_share ws category side p) (A * activity) (F + P)
  freight-near l =
      let near = of-all-near 0 Freight (goes-here ws category Freight p same (le-leb code 2 l)) in
      near-cancel F (omega (arith, near))

  -- chilled or frozen freight gets of its own group's pool alone
  group-alone : 0 < code → code ≤ 2 → group_share ws category side p 1 + group_share ws category side p 2 ≡ group_share ws category side p code
  group-alone g l =
      ⊎_elim
      (λ (e : code ≡ 2).
      omega (
        arith,
        chilled-none ws category side h p (goes-outside ws category (Group 1) p (ne_eqb code 1 (λ z. omega arith))),
        ap (group_share ws category side p) e,
      ))
      (λ (e : code < 2).
      let one : code ≡ 1 = omega arith in
      omega (
        arith,
        frozen-none ws category side h p (goes-outside ws category (Group 2) p (ne_eqb code 2 (λ z. omega arith))),
        ap (group_share ws category side p) one,
      ))
      (eq-or-lt_of_le l)

  -- freight gets nothing of the passenger part, and ambient freight nothing of a group's pool
  freight-alone : code ≤ 2
      → closing_share ws category side p ≡ freight_share ws category side p + (group_share ws category side p 1 + group_share ws category side p 2)
  unfolding closing_share
  freight-alone l =
      let outside = goes-outside ws category Passengers p (between-outside 100 1000 code (inl (omega arith))) in
      omega (arith, passengers-none ws category side h p outside)

  ambient-alone : code ≡ 0 → closing_share ws category side p ≡ freight_share ws category side p
  ambient-alone e =
      omega (
        arith,
        freight-alone (omega arith),
        chilled-none ws category side h p (goes-outside ws category (Group 1) p (ne_eqb code 1 (λ z. omega arith))),
        frozen-none ws category side h p (goes-outside ws category (Group 2) p (ne_eqb code 2 (λ z. omega arith))),
      )

  -- passengers get of the passenger part alone
  passengers-alone : 2 < code → closing_share ws category side p ≡ passenger_share ws category side p
  unfolding closing_share
  passengers-alone g =
      omega (
        arith,
        freight-none ws category side h p (goes-outside ws category Freight p (lt-leb code 2 g)),
        chilled-none ws category side h p (goes-outside ws category (Group 1) p (ne_eqb code 1 (λ z. omega arith))),
        frozen-none ws category side h p (goes-outside ws category (Group 2) p (ne_eqb code 2 (λ z. omega arith))),
      )

  -- its share is near to its exact share
  abbrev Near : Type 0
  Near =
      Within 3 (closing_share ws category side p)
      (exact_of ws category side (element_at ws p)).numerator
      (exact_of ws category side (element_at ws p)).denominator

  ambient-near : code ≡ 0 → Near
  ambient-near e = rw (ambient-alone e, exact-ambient) (near-weaken (omega arith) (freight-near (omega arith)))

  grouped-near : 0 < code → code ≤ 2 → Near
  grouped-near g l =
      rw (freight-alone l, group-alone g l, exact-grouped)
      (near-plus (freight-near l)
      (part-near ws category (Group code) (pool ws category code side) p here
      (goes-here ws category (Group code) p same (eq-eqb code code refl))
      some))

  passengers-near : 2 < code → between 100 1000 code ≡ true → Near
  passengers-near g e =
      rw (passengers-alone g, exact-passengers)
      (near-weaken (omega arith) (of-all-near 1 Passengers (goes-here ws category Passengers p same e)))

-- The share of an element of the category is less than three units from its exact share, both ways.
pub share-within : (ws : List ℕ) (category : ℕ) (side : Side) → Divisions ws category side → (p : ℕ) → p < elements ws
    → (element_at ws p).category ≡ category → is_code (element_at ws p).code ≡ true → 0 < (element_at ws p).activity
    → Within 3 (closing_share ws category side p)
    (exact_of ws category side (element_at ws p)).numerator
    (exact_of ws category side (element_at ws p)).denominator
share-within ws category side h p here same known some =
    ⊎_elim
    (λ (l : (element_at ws p).code < 3).
    ⊎_elim (ambient-near ws category side h p here same some)
    (λ (g : 0 < (element_at ws p).code). grouped-near ws category side h p here same some g (omega arith))
    (eq-zero-or-pos (element_at ws p).code))
    (λ (g : 3 ≤ (element_at ws p).code).
    passengers-near ws category side h p here same some g (rw (lt-leb (element_at ws p).code 2 g) at known))
    (cases_lt (element_at ws p).code 3)
