-- The sums of ground 10 and of soundness. Assumes nothing.
use Rattle.std.specs.Prelude.{cond, Bool, not, ◌&&◌, List, ℕ, ◌+◌, eqb, leb}
use Rattle.apportion.specs.Places.{sum_below}
use Rattle.book_words.specs.declared.totals.Side.{Side}
use Rattle.book_words.specs.declared.totals.Side.TheVariants.{Operation as operation, Provision as provision}
use Rattle.book_words.specs.declared.records.Element.{Element}
use Rattle.book_words.specs.declared.records.Entry.{Entry}
use Rattle.book_words.specs.declared.totals.Sums.{Sums}
use Rattle.book_words.specs.Book.{entries, entry_at, elements, element_at}
use Rattle.book_words.specs.Measures.{standard_activity}

-- "Operation (VO) and provision (VEP) amounts are kept separate throughout (Formulae 1 to 5).": an entry's amount, and an element's
-- share, of this `Side`
abbrev pub amount_of : Side → Entry → ℕ
amount_of operation e = e.operation
amount_of provision e = e.provision

abbrev pub share_of : Side → Element → ℕ
share_of operation e = e.operation
share_of provision e = e.provision

-- "struck (0 or 1)": what an unstruck entry adds
abbrev pub unstruck : Side → Entry → ℕ
unstruck side e = cond (eqb e.struck 0) (amount_of side e) 0

-- the unstruck entries of all categories
unfoldable pub all_unstruck : List ℕ → Side → ℕ
all_unstruck ws side = sum_below (entries ws) (λ p. unstruck side (entry_at ws p))

-- the unstruck entries of the category of this number
unfoldable pub unstruck_of : List ℕ → ℕ → Side → ℕ
unstruck_of ws category side =
    sum_below (entries ws) (λ p. cond (eqb (entry_at ws p).category category) (unstruck side (entry_at ws p)) 0)

-- the shares in the category of this number; those of number 0 are the quoted shares
unfoldable pub shares_of : List ℕ → ℕ → Side → ℕ
shares_of ws category side =
    sum_below (elements ws) (λ p. cond (eqb (element_at ws p).category category) (share_of side (element_at ws p)) 0)

-- ground 10: "Unstruck entries plus quoted shares"
abbrev pub emitted : List ℕ → Side → ℕ
emitted ws side = all_unstruck ws side + shares_of ws 0 side

-- their limit: "10^18 µg in operation or provision"
abbrev pub most_emissions : ℕ
most_emissions = 1_000_000_000_000_000_000

-- ground 10: "activity over all elements (hubs and quotes too, passengers as in P)"; of passengers it "still counts 100 per head"
unfoldable pub activities : List ℕ → ℕ
activities ws = sum_below (elements ws) (λ p. standard_activity (element_at ws p))

-- its limit: "10^17"
abbrev pub most_activity : ℕ
most_activity = 100_000_000_000_000_000

-- ground 10's sums over a book
abbrev pub sums_of : List ℕ → Sums
sums_of ws =
    record { operation = emitted ws operation; provision = emitted ws provision; activity = activities ws }

-- ground 10's "quoted shares": what an element adds to them
abbrev pub quoted_share : Side → Element → ℕ
quoted_share side e = cond (eqb e.category 0) (share_of side e) 0

-- the same sums with one entry more, and with one element more
abbrev pub with_entry : Sums → Entry → Sums
with_entry sums e =
    record {
      operation = sums.operation + unstruck operation e;
      provision = sums.provision + unstruck provision e;
      activity = sums.activity;
    }

abbrev pub with_element : Sums → Element → Sums
with_element sums e =
    record {
      operation = sums.operation + quoted_share operation e;
      provision = sums.provision + quoted_share provision e;
      activity = sums.activity + standard_activity e;
    }

-- no sum passes its limit of ground 10
abbrev pub within_limits : Sums → Bool
within_limits sums =
    leb sums.operation most_emissions && leb sums.provision most_emissions && leb sums.activity most_activity

-- ground 10 of a call: "Unstruck entries plus quoted shares would pass 10^18 µg in operation or provision, activity over all
-- elements .. would pass 10^17". These are the sums with the record that the call would append
abbrev pub passes_limits : Sums → Bool
passes_limits sums = not (within_limits sums)
