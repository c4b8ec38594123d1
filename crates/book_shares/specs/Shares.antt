-- The shares that a closing writes, and the exact share of each. Assumes nothing.
use Rattle.std.specs.Prelude.{cond, List, ◌∷◌, [], ℕ, ◌+◌, ◌*◌, eqb}
use Rattle.apportion.specs.Dividing.{divided}
use Rattle.apportion.specs.Fractions.{Fraction, over, plus}
use Rattle.apportion.specs.Places.{at, list_below}
use Rattle.book_words.specs.Book.{elements, element_at}
use Rattle.book_words.specs.Measures.{is_freight}
use Rattle.book_words.specs.declared.totals.Side.{Side}
use Rattle.book_words.specs.declared.records.Element.{Element}
use Rattle.book_shares.specs.Sums.{Recipients, Freight, Passengers, Group, pool, activity_among, passengers_by_mass, among}

-- "Divide A by the weights F, P in that order."
unfoldable pub divided_all : List ℕ → ℕ → Side → List ℕ
divided_all ws category side =
    divided (pool ws category 0 side) (activity_among ws category Freight ∷ passengers_by_mass ws category ∷ [])

abbrev pub freight_part : List ℕ → ℕ → Side → ℕ
freight_part ws category side = at (divided_all ws category side) 0

abbrev pub passenger_part : List ℕ → ℕ → Side → ℕ
passenger_part ws category side = at (divided_all ws category side) 1

-- the activities of the elements that a pool goes to. There is a weight for every element of the book, in its place, and it is 0
-- for those that the pool does not go to: where the pool can be divided, these get 0 and the others what they would get alone
-- (law `alone`)
unfoldable pub weights : List ℕ → ℕ → Recipients → List ℕ
weights ws category recipients = list_below (elements ws) (λ p. among category recipients (λ e. e.activity) (element_at ws p))

-- the part of a pool that the element at this place gets
unfoldable pub part_at : List ℕ → ℕ → Recipients → ℕ → ℕ → ℕ
part_at ws category recipients amount place = at (divided amount (weights ws category recipients)) place

-- "Divide the freight part over freight elements by activity, the passenger part over passenger elements by activity, each B
-- over the freight elements of its group. A share is the sum of an element's parts."
unfoldable pub closing_share : List ℕ → ℕ → Side → ℕ → ℕ
closing_share ws category side place =
    part_at ws category Freight (freight_part ws category side) place
    + part_at ws category Passengers (passenger_part ws category side) place
    + part_at ws category (Group 1) (pool ws category 1 side) place
    + part_at ws category (Group 2) (pool ws category 2 side) place

-- *Exact share* by its sums, of an element of this code and activity. "Freight of activity a in group g: A×a/(F+P), plus B×a/S
-- if g is 1 or 2, B being that group's and S its activity. Passengers of activity c: A×P×c/((F+P)×C)."
unfoldable pub exact_share : (A F P C : ℕ) → (B S : ℕ → ℕ) → (code activity : ℕ) → Fraction
exact_share A F P C B S code activity =
    cond (is_freight code)
    (cond (eqb code 0)
    (over (A * activity) (F + P))
    (plus (over (A * activity) (F + P)) (over (B code * activity) (S code))))
    (over (A * P * activity) ((F + P) * C))

-- the exact share of an element in the category, by the sums of the book
abbrev pub exact_of : List ℕ → ℕ → Side → Element → Fraction
exact_of ws category side e =
    exact_share
    (pool ws category 0 side)
    (activity_among ws category Freight)
    (passengers_by_mass ws category)
    (activity_among ws category Passengers)
    (λ g. pool ws category g side)
    (λ g. activity_among ws category (Group g))
    e.code
    e.activity
