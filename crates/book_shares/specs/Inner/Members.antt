-- The elements of a category by their places, and what is measured of them: what inner functions require and promise. Assumes
-- nothing.
use Rattle.std.specs.Prelude.{Bool, List, ℕ, eqb, length}
use Rattle.apportion.specs.Places.{at, kept_below, list_below, sum_below}
use Rattle.book_words.specs.Book.{elements, element_at}
use Rattle.book_words.specs.Measures.{by_stated_mass}
use Rattle.book_words.specs.declared.records.Element.{Element}
use Rattle.book_shares.specs.declared.weights.Group.{Group as NamedGroup}
use Rattle.book_shares.specs.declared.weights.Group.TheVariants.{Chilled as chilled, Frozen as frozen}
use Rattle.book_shares.specs.declared.weights.Recipients.{Recipients as Named}
use Rattle.book_shares.specs.declared.weights.Recipients.TheVariants.{Freight as freight, Passengers as passengers, Group as of_group}
use Rattle.book_shares.specs.Sums.{Recipients, Freight, Passengers, Group, if_recipient}

-- "group (0 benefits all, 1 chilled, 2 frozen)": the numbers of the groups that have elements of their own
abbrev pub group_number : NamedGroup → ℕ
group_number chilled = 1
group_number frozen = 2

-- what a pool goes to, a group by its number
abbrev pub by_number : Named → Recipients
by_number freight = Freight
by_number passengers = Passengers
by_number (of_group g) = Group (group_number g)

-- the element at this place is of the category
abbrev pub is_member : List ℕ → ℕ → ℕ → Bool
is_member ws category place = eqb (element_at ws place).category category

-- the places of the category's elements, in their order
unfoldable pub members : List ℕ → ℕ → List ℕ
members ws category = kept_below (elements ws) (is_member ws category) (λ p. p)

-- f at each of these places
abbrev pub at_places : List ℕ → (ℕ → ℕ) → List ℕ
at_places places f = list_below (length places) (λ i. f (at places i))

-- what an element adds to a sum: F, C and S are sums of activities, P is the passengers' by mass
abbrev pub activity_in : Recipients → Element → ℕ
activity_in recipients e = if_recipient recipients e.code e.activity

abbrev pub mass_in : Element → ℕ
mass_in e = if_recipient Passengers e.code (by_stated_mass e)

-- the weights of the elements at these places
unfoldable pub weights_at : List ℕ → List ℕ → Recipients → List ℕ
weights_at ws places recipients = at_places places (λ p. activity_in recipients (element_at ws p))

-- the sum of what the elements at these places add
unfoldable pub sum_at : List ℕ → List ℕ → (Element → ℕ) → ℕ
sum_at ws places measure = sum_below (length places) (λ i. measure (element_at ws (at places i)))

-- their activity: F, C and S
abbrev pub activity_at : List ℕ → List ℕ → Recipients → ℕ
activity_at ws places recipients = sum_at ws places (activity_in recipients)

-- their passengers by mass: P
abbrev pub mass_at : List ℕ → List ℕ → ℕ
mass_at ws places = sum_at ws places mass_in
