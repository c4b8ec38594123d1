-- "The book" of document 01: a lent slice of 64-bit words, given here as the list of its words. "Records are numbered from
-- 1"; places are counted from 0, and the record of number n stands at place n - 1. Assumes nothing.
use Rattle.std.specs.Prelude.{Bool, not, List, [], ◌∷◌, ℕ, ◌+◌, ◌*◌, ◌-◌, eqb, set}
use Rattle.std.proofs.lemmas.List.Edits.{sets}
use Rattle.apportion.specs.Places.{at}
use Rattle.book_words.specs.declared.records.Category.{Category}
use Rattle.book_words.specs.declared.records.Element.{Element}
use Rattle.book_words.specs.declared.records.Entry.{Entry}
use Rattle.book_words.specs.declared.records.Layout.{Layout}
use Rattle.book_words.specs.Measures.{between}

-- "The book becomes 2,660 words.": those before the elements, and nine for each of 256
abbrev pub book_length : ℕ
book_length = 2660

-- "Word 0 is 14083"
abbrev pub mark : ℕ
mark = 14083

-- where each list is: "words 1 to 3 count categories, entries, elements"; "from word 4, categories, 2 words"
abbrev pub category_list : Layout
category_list = record { counter = 1; first = 4; width = 2 }

-- "from word 36, entries, 5 words"
abbrev pub entry_list : Layout
entry_list = record { counter = 2; first = 36; width = 5 }

-- "from word 356, elements, 8 words"; "Element records get a ninth word"
abbrev pub element_list : Layout
element_list = record { counter = 3; first = 356; width = 9 }

-- how many records a list has
abbrev pub count_of : List ℕ → Layout → ℕ
count_of ws list = at ws list.counter

abbrev pub categories : List ℕ → ℕ
categories ws = count_of ws category_list

abbrev pub entries : List ℕ → ℕ
entries ws = count_of ws entry_list

abbrev pub elements : List ℕ → ℕ
elements ws = count_of ws element_list

-- "(limits 16, 64, 256)"
abbrev pub most_categories : ℕ
most_categories = 16

abbrev pub most_entries : ℕ
most_entries = 64

abbrev pub most_elements : ℕ
most_elements = 256

-- where the record at a place of a list starts
abbrev pub start_of : Layout → ℕ → ℕ
start_of list place = list.first + list.width * place

abbrev pub category_start : ℕ → ℕ
category_start place = start_of category_list place

abbrev pub entry_start : ℕ → ℕ
entry_start place = start_of entry_list place

abbrev pub element_start : ℕ → ℕ
element_start place = start_of element_list place

-- the words that have a name, each counted from the start of its record
abbrev pub closed_word : ℕ
closed_word = 1

abbrev pub struck_word : ℕ
struck_word = 4

abbrev pub chain_word : ℕ
chain_word = 1

abbrev pub operation_share_word : ℕ
operation_share_word = 6

abbrev pub provision_share_word : ℕ
provision_share_word = 7

-- a category: "kind .., closed (0 or 1)"
abbrev pub category_at : List ℕ → ℕ → Category
category_at ws place =
    record {
      kind = at ws (category_start place);
      closed = at ws (category_start place + closed_word);
    }

-- the category of this number, which is looked at only where it is from 1 to the count
abbrev pub category_of : List ℕ → ℕ → Category
category_of ws number = category_at ws (number - 1)

-- an entry: "category, group .., operation µg, provision µg, struck (0 or 1)"
abbrev pub entry_at : List ℕ → ℕ → Entry
entry_at ws place =
    record {
      category = at ws (entry_start place);
      group = at ws (entry_start place + 1);
      operation = at ws (entry_start place + 2);
      provision = at ws (entry_start place + 3);
      struck = at ws (entry_start place + struck_word);
    }

-- the entry of this number, likewise
abbrev pub entry_of : List ℕ → ℕ → Entry
entry_of ws number = entry_at ws (number - 1)

-- an element: "category (0 when quoted), chain (1 to 10,000), code, amount, distance, activity, operation share, provision
-- share"; "a ninth word, kg per head"
abbrev pub element_at : List ℕ → ℕ → Element
element_at ws place =
    record {
      category = at ws (element_start place);
      chain = at ws (element_start place + chain_word);
      code = at ws (element_start place + 2);
      amount = at ws (element_start place + 3);
      distance = at ws (element_start place + 4);
      activity = at ws (element_start place + 5);
      operation = at ws (element_start place + operation_share_word);
      provision = at ws (element_start place + provision_share_word);
      kg_per_head = at ws (element_start place + 8);
    }

-- the words of a record, in that order
abbrev pub category_words : Category → List ℕ
category_words r = r.kind ∷ r.closed ∷ []

abbrev pub entry_words : Entry → List ℕ
entry_words r = r.category ∷ r.group ∷ r.operation ∷ r.provision ∷ r.struck ∷ []

abbrev pub element_words : Element → List ℕ
element_words r =
    r.category
    ∷ r.chain
    ∷ r.code
    ∷ r.amount
    ∷ r.distance
    ∷ r.activity
    ∷ r.operation
    ∷ r.provision
    ∷ r.kg_per_head
    ∷ []

-- a record of these words is appended to a list: they are written at the place after its last, one after the other (`sets`),
-- and the record is counted
abbrev pub appended : List ℕ → Layout → List ℕ → List ℕ
appended ws list words = set (sets ws (start_of list (count_of ws list)) words) list.counter (count_of ws list + 1)

unfoldable pub add_category : List ℕ → Category → List ℕ
add_category ws r = appended ws category_list (category_words r)

unfoldable pub add_entry : List ℕ → Entry → List ℕ
add_entry ws r = appended ws entry_list (entry_words r)

unfoldable pub add_element : List ℕ → Element → List ℕ
add_element ws r = appended ws element_list (element_words r)

-- a category's closed word is set
abbrev pub close_category : List ℕ → ℕ → List ℕ
close_category ws number = set ws (category_start (number - 1) + closed_word) 1

-- an entry's struck word is set
abbrev pub strike_entry : List ℕ → ℕ → List ℕ
strike_entry ws number = set ws (entry_start (number - 1) + struck_word) 1

-- an element's two share words are written
abbrev pub put_shares : List ℕ → ℕ → ℕ → ℕ → List ℕ
put_shares ws place by_operation by_provision =
    set
    (set ws (element_start place + operation_share_word) by_operation)
    (element_start place + provision_share_word)
    by_provision

-- the same element with these shares
abbrev pub with_shares : Element → ℕ → ℕ → Element
with_shares r by_operation by_provision =
    record {
      category = r.category;
      chain = r.chain;
      code = r.code;
      amount = r.amount;
      distance = r.distance;
      activity = r.activity;
      operation = by_operation;
      provision = by_provision;
      kg_per_head = r.kg_per_head;
    }

-- ground 2: "A category or entry number is not between 1 and its count."
abbrev pub unnumbered : ℕ → ℕ → Bool
unnumbered count number = not (between 1 count number)

-- grounds 4 and 5: "A closed category", "an open category"
abbrev pub has_closed : Category → Bool
has_closed category = not (eqb category.closed 0)

abbrev pub is_closed : List ℕ → ℕ → Bool
is_closed ws number = has_closed (category_of ws number)
