-- The sums of "Close": what is divided of a category's unstruck entries, and by what. `category` is its number.
-- Assumes nothing.
use Rattle.std.specs.Prelude.{cond, Bool, List, ℕ, eqb}
use Rattle.apportion.specs.Places.{sum_below}
use Rattle.book_words.specs.Book.{entries, entry_at, elements, element_at}
use Rattle.book_words.specs.Measures.{by_stated_mass, is_freight, is_passenger}
use Rattle.book_words.specs.declared.totals.Side.{Side}
use Rattle.book_words.specs.Totals.{unstruck}
use Rattle.book_words.specs.declared.records.Element.{Element}
use Rattle.book_words.specs.declared.records.Entry.{Entry}

-- what a pool goes to: all freight, the passengers, or the freight of the group of this number
pub data Recipients : Type 0 where
  Freight : Recipients
  Passengers : Recipients
  Group : ℕ → Recipients

-- "Unstruck entries: A is the sum of group 0, B1 and B2 of groups 1 and 2." What an entry of the category adds to the pool of this
-- group
abbrev pub in_group : ℕ → Side → Entry → ℕ
in_group group side e = cond (eqb e.group group) (unstruck side e) 0

-- what any entry adds to it: 0 where it is of another category
abbrev pub pooled : ℕ → ℕ → Side → Entry → ℕ
pooled category group side e = cond (eqb e.category category) (in_group group side e) 0

-- A is `pool ws category 0`, B1 and B2 are those of groups 1 and 2
unfoldable pub pool : List ℕ → ℕ → ℕ → Side → ℕ
pool ws category group side = sum_below (entries ws) (λ p. pooled category group side (entry_at ws p))

-- the elements that a pool goes to, by their codes: "freight elements", "passenger elements", "the freight elements of its group"
abbrev pub receives : Recipients → ℕ → Bool
receives Freight code = is_freight code
receives Passengers code = is_passenger code
receives (Group group) code = eqb code group

-- this number for an element of such a code; 0 for any other
abbrev pub if_recipient : Recipients → ℕ → ℕ → ℕ
if_recipient recipients code n = cond (receives recipients code) n 0

-- what such an element of the category measures; 0 for any other
abbrev pub among : ℕ → Recipients → (Element → ℕ) → Element → ℕ
among category recipients measure e = cond (eqb e.category category) (if_recipient recipients e.code (measure e)) 0

-- the sum over these elements
abbrev pub sum_among : List ℕ → ℕ → Recipients → (Element → ℕ) → ℕ
sum_among ws category recipients measure = sum_below (elements ws) (λ p. among category recipients measure (element_at ws p))

-- their activity: "F is the freight activity", "C is the passengers' activity", and S is a group's "activity"
unfoldable pub activity_among : List ℕ → ℕ → Recipients → ℕ
activity_among ws category recipients = sum_among ws category recipients (λ e. e.activity)

-- "P is the sum of head count × 100 × distance (100 kg per passenger, Annex A.4.2)"; "P uses the stated mass"
unfoldable pub passengers_by_mass : List ℕ → ℕ → ℕ
passengers_by_mass ws category = sum_among ws category Passengers by_stated_mass
