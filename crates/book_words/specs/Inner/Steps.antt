-- The steps of the test and of the sums, and records by their numbers: what the functions that the calls are made of require and
-- promise. Assumes nothing.
use Rattle.std.specs.Prelude.{Bool, true, ◌≡◌, cond, List, ℕ, Option, Some, None, ◌+◌, ◌-◌, ◌≤◌, min, suc, length}
use Rattle.apportion.specs.Places.{sum_below}
use Rattle.book_words.specs.declared.totals.Amounts.{Amounts}
use Rattle.book_words.specs.declared.totals.Sums.{Sums}
use Rattle.book_words.specs.Book.{book_length, categories, most_categories, category_at}
use Rattle.book_words.specs.Book.{entries, most_entries, entry_at, elements, most_elements, element_at}
use Rattle.book_words.specs.Measures.{between, standard_activity}
use Rattle.book_words.specs.Soundness.{all_below, category_fine, entry_fine, element_fine, elements_fine, passengers_fine, sums_fine, shares_fine}
use Rattle.book_words.specs.declared.soundness.List.{List as Tested}
use Rattle.book_words.specs.declared.soundness.List.TheVariants.{Categories, Entries, Elements, Passengers, Sums as SumsList, Closings}
use Rattle.book_words.specs.declared.totals.Side.{Side}
use Rattle.book_words.specs.declared.totals.Side.TheVariants.{Operation as operation, Provision as provision}
use Rattle.book_words.specs.Totals.{most_emissions, quoted_share, unstruck, emitted}

-- A sum of any words may pass 64 bits. The code's sums and products are exact up to 10^18, and 10^18 + 1 stands for all that is more.
-- No limit that they are compared with is above 10^18; of two sums that are compared with each other one is known to be within it
abbrev pub most_exact : ℕ
most_exact = 1_000_000_000_000_000_000

abbrev pub capped : ℕ → ℕ
capped n = min n (suc most_exact)

-- the sums of ground 10, each capped
abbrev pub cap_sums : Sums → Sums
cap_sums sums =
    record {
      operation = capped sums.operation;
      provision = capped sums.provision;
      activity = capped sums.activity;
    }

-- the book is there, and its counts are within their limits
pub record CountsWithin (ws : List ℕ) : Type 0 where
  pub long : book_length ≤ length ws
  pub categories_most : categories ws ≤ most_categories
  pub entries_most : entries ws ≤ most_entries
  pub elements_most : elements ws ≤ most_elements

-- unstruck entries plus quoted shares are within 10^18 on both sides
abbrev pub Limited : List ℕ → Type 0
Limited ws = (side : Side) → emitted ws side ≤ most_emissions

-- how many records a list of the test has: the passengers and the sums are one record each
abbrev pub count_in : List ℕ → Tested → ℕ
count_in ws Categories = categories ws
count_in ws Entries = entries ws
count_in ws Elements = elements ws
count_in ws Passengers = 1
count_in ws SumsList = 1
count_in ws Closings = categories ws

abbrev pub record_fine : List ℕ → Tested → ℕ → Bool
record_fine ws Categories place = category_fine (category_at ws place)
record_fine ws Entries place = entry_fine ws (entry_at ws place)
record_fine ws Elements place = element_fine ws (element_at ws place)
record_fine ws Passengers place = passengers_fine ws
record_fine ws SumsList place = sums_fine ws
record_fine ws Closings place = shares_fine ws place

-- every record of a list keeps its rules
unfoldable pub list_fine : List ℕ → Tested → Bool
list_fine ws list = all_below (count_in ws list) (record_fine ws list)

-- what the rules of a list take for granted behind the header: those of the lists before it give it
abbrev pub ReadyFor : Tested → List ℕ → Type 0
ReadyFor Categories ws = Unit {0}
ReadyFor Entries ws = Unit {0}
ReadyFor Elements ws = Unit {0}
ReadyFor Passengers ws = elements_fine ws ≡ true
ReadyFor SumsList ws = Unit {0}
ReadyFor Closings ws = Limited ws

-- an amount of this side, and two amounts by their sides
abbrev pub side_of : Side → Amounts → ℕ
side_of operation a = a.operation
side_of provision a = a.provision

abbrev pub by_sides : (Side → ℕ) → Amounts
by_sides amount = record { operation = amount operation; provision = amount provision }

-- unstruck entries plus quoted shares, of the entries below one place and the elements below another
abbrev pub emitted_below : List ℕ → ℕ → ℕ → Side → ℕ
emitted_below ws entry element side =
    sum_below entry (λ p. unstruck side (entry_at ws p))
    + sum_below element (λ p. quoted_share side (element_at ws p))

-- ground 10's sums over these
abbrev pub sums_below : List ℕ → ℕ → ℕ → Sums
sums_below ws entry element =
    record {
      operation = emitted_below ws entry element operation;
      provision = emitted_below ws entry element provision;
      activity = sum_below element (λ p. standard_activity (element_at ws p));
    }

-- the record of this number, of so many that stand at these places
abbrev pub numbered : {R : Type 0} → ℕ → (ℕ → R) → ℕ → Option R
numbered count record_at number = cond (between 1 count number) (Some (record_at (number - 1))) None
