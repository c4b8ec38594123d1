-- "A book is *sound* when ..", the test of ground 1. Assumes nothing.
use Rattle.std.specs.Prelude.{Bool, true, ◌&&◌, not, cond, List, ℕ, zero, suc, ◌+◌, ◌*◌, leb, eqb, length}
use Rattle.apportion.specs.Places.{at}
use Rattle.book_words.specs.declared.records.Category.{Category}
use Rattle.book_words.specs.declared.records.Element.{Element}
use Rattle.book_words.specs.declared.records.Entry.{Entry}
use Rattle.book_words.specs.Book.{book_length, mark, categories, most_categories, entries, most_entries, elements, most_elements, category_of, category_at, entry_at, element_at}
use Rattle.book_words.specs.Measures.{is_kind, is_group, unsuited, unsuited_group, between, is_mass, is_amount, is_distance, is_distance_in, is_kg_per_head, activity_of, is_chain, is_code}
use Rattle.book_words.specs.Mixture.{mixed}
use Rattle.book_words.specs.declared.totals.Side.TheVariants.{Operation as operation, Provision as provision}
use Rattle.book_words.specs.Totals.{sums_of, within_limits, shares_of, unstruck_of}

-- every place below n passes the test
abbrev pub all_below : ℕ → (ℕ → Bool) → Bool
all_below zero test = true
all_below (suc n) test = all_below n test && test n

-- "word 0 and the counts are as above"; a slice that is shorter than the book holds none
unfoldable pub header_fine : List ℕ → Bool
header_fine ws =
    leb book_length (length ws)
    && eqb (at ws 0) mark
    && leb (categories ws) most_categories
    && leb (entries ws) most_entries
    && leb (elements ws) most_elements

-- "every counted record has its fields in range ..": a category
unfoldable pub category_fine : Category → Bool
category_fine r = is_kind r.kind && leb r.closed 1

-- "an entry's amounts 0 to 10^18 µg"
abbrev pub most_amount : ℕ
most_amount = 1_000_000_000_000_000_000

-- an entry of this category: its fields are in range, and it "suits its category's kind"
unfoldable pub entry_suits : Category → Entry → Bool
entry_suits category r =
    is_group r.group
    && not (unsuited_group category.kind r.group)
    && leb r.operation most_amount
    && leb r.provision most_amount
    && leb r.struck 1

unfoldable pub entry_fine : List ℕ → Entry → Bool
entry_fine ws r = between 1 (categories ws) r.category && entry_suits (category_of ws r.category) r

-- an element's amount, distance and kg per head are in range for this kind, and it "has the right activity"
unfoldable pub measured : ℕ → Element → Bool
measured kind r =
    is_amount r.code r.amount
    && is_distance_in kind r.distance
    && is_kg_per_head r.code r.kg_per_head
    && eqb r.activity (activity_of kind r.code r.amount r.distance)

-- "(a quoted element has code 0 and a distance above 0)"; "freight and quotes hold 0"; "Its activity is mass × distance." Its shares are
-- any words within the sums
unfoldable pub quoted_suits : Element → Bool
quoted_suits r =
    is_chain r.chain
    && eqb r.code 0
    && is_mass r.amount
    && is_distance r.distance
    && eqb r.kg_per_head 0
    && eqb r.activity (r.amount * r.distance)

-- "shares in open categories are 0"
abbrev pub shares_wait : Category → Element → Bool
shares_wait category r = cond (eqb category.closed 0) (eqb r.operation 0 && eqb r.provision 0) true

-- an element of this category
unfoldable pub element_suits : Category → Element → Bool
element_suits category r =
    is_chain r.chain
    && is_code r.code
    && not (unsuited category.kind r.code)
    && measured category.kind r
    && shares_wait category r

unfoldable pub element_fine : List ℕ → Element → Bool
element_fine ws r =
    cond (eqb r.category 0)
    (quoted_suits r)
    (leb r.category (categories ws) && element_suits (category_of ws r.category) r)

-- "the sums stay within refusal 10's limits"
unfoldable pub sums_fine : List ℕ → Bool
sums_fine ws = within_limits (sums_of ws)

-- "in each closed category the shares sum to the category's unstruck entries, operation and provision each"
-- (the category at this place has number place + 1)
unfoldable pub shares_fine : List ℕ → ℕ → Bool
shares_fine ws place =
    cond (eqb (category_at ws place).closed 0)
    true
    (eqb (shares_of ws (place + 1) operation) (unstruck_of ws (place + 1) operation)
    && eqb (shares_of ws (place + 1) provision) (unstruck_of ws (place + 1) provision))

-- every record of every list
unfoldable pub categories_fine : List ℕ → Bool
categories_fine ws = all_below (categories ws) (λ p. category_fine (category_at ws p))

unfoldable pub entries_fine : List ℕ → Bool
entries_fine ws = all_below (entries ws) (λ p. entry_fine ws (entry_at ws p))

unfoldable pub elements_fine : List ℕ → Bool
elements_fine ws = all_below (elements ws) (λ p. element_fine ws (element_at ws p))

-- "a book that already holds such a mixture is not sound": none of its elements mixes with those before it
unfoldable pub passengers_fine : List ℕ → Bool
passengers_fine ws = all_below (elements ws) (λ p. not (mixed ws p))

unfoldable pub closings_fine : List ℕ → Bool
closings_fine ws = all_below (categories ws) (shares_fine ws)

unfoldable pub sound : List ℕ → Bool
sound ws =
    header_fine ws
    && categories_fine ws
    && entries_fine ws
    && elements_fine ws
    && passengers_fine ws
    && sums_fine ws
    && closings_fine ws
