-- "Calls" and their "Grounds, in checking order". Each call has one ordered list of its grounds; its reply and the book after
-- it go by the number of the first ground that holds. Close, preview and intensity are in `Closing`, `Previews` and `Intensities` of
-- `book_shares`, statement in `Statements`, a line in `Lines`.
-- Assumes nothing.
use Rattle.std.specs.Prelude.{Bool, not, ◌&&◌, ◌||◌, cond, List, ◌++◌, ◌∷◌, [], ℕ, ◌+◌, ◌*◌, ltb, leb, eqb, drop, length, set}
use Rattle.apportion.specs.Fractions.{nearest}
use Rattle.apportion.specs.Grounds.{accepted, Ground, first_of}
use Rattle.apportion.specs.Places.{list_below}
use Rattle.book_words.specs.Book.{book_length, mark, most_categories, categories, add_category, category_of, most_entries, entries, add_entry, entry_of, strike_entry, most_elements, elements, add_element, unnumbered, has_closed}
use Rattle.book_words.specs.Measures.{is_kind, is_group, unsuited_group, unsuited, is_quantity, is_factor, activity_of, is_chain, is_code, is_mass, is_amount, is_distance, is_distance_in, is_kg_per_head, is_adjust, is_intensity}
use Rattle.book_words.specs.Mixture.{mixes}
use Rattle.book_words.specs.Soundness.{sound}
use Rattle.book_words.specs.declared.totals.Side.{Side}
use Rattle.book_words.specs.declared.totals.Side.TheVariants.{Operation as operation, Provision as provision}
use Rattle.book_words.specs.Totals.{passes_limits, sums_of, with_entry, with_element}
use Rattle.book_words.specs.declared.records.Category.{Category}
use Rattle.book_words.specs.declared.records.Element.{Element}
use Rattle.book_words.specs.declared.records.Entry.{Entry}
use Rattle.book.specs.declared.arguments.EnrolArguments.{EnrolArguments}
use Rattle.book.specs.declared.arguments.PostArguments.{PostArguments}
use Rattle.book.specs.declared.arguments.QuoteArguments.{QuoteArguments}
use Rattle.book.specs.Replies.{Reply, reply_of}

-- "**Fresh**: the 2,404 words become 0, then word 0 is set."; "The book becomes 2,660 words."
unfoldable pub cleared : List ℕ → List ℕ
cleared ws = list_below book_length (λ k. 0) ++ drop book_length ws

abbrev pub fresh_grounds : List ℕ → List Ground
fresh_grounds ws = (1, ltb (length ws) book_length) ∷ []

unfoldable pub fresh_refusal : List ℕ → ℕ
fresh_refusal ws = first_of (fresh_grounds ws)

unfoldable pub fresh_book : List ℕ → List ℕ
fresh_book ws = accepted (fresh_refusal ws) (set (cleared ws) 0 mark) ws

-- "**Open** (kind)"
abbrev pub open_grounds : List ℕ → ℕ → List Ground
open_grounds ws kind =
    (1, not (sound ws))
    ∷ (3, not (is_kind kind))
    ∷ (8, leb most_categories (categories ws))
    ∷ []

unfoldable pub open_refusal : List ℕ → ℕ → ℕ
open_refusal ws kind = first_of (open_grounds ws kind)

unfoldable pub open_reply : List ℕ → ℕ → Reply
open_reply ws kind = reply_of (open_refusal ws kind) (categories ws + 1)

unfoldable pub open_book : List ℕ → ℕ → List ℕ
open_book ws kind = accepted (open_refusal ws kind) (add_category ws (record { kind = kind; closed = 0 })) ws

-- "quantity × factor is µg"
abbrev pub posted_amount : Side → PostArguments → ℕ
posted_amount operation p = p.quantity * p.operation_factor
posted_amount provision p = p.quantity * p.provision_factor

-- "**post** (category, group, quantity, operation factor, provision factor)"
abbrev pub posted_entry : PostArguments → Entry
posted_entry p =
    record {
      category = p.category;
      group = p.group;
      operation = posted_amount operation p;
      provision = posted_amount provision p;
      struck = 0;
    }

-- `here` is the record of the category that is posted to
abbrev pub post_grounds_in : List ℕ → PostArguments → Category → List Ground
post_grounds_in ws p here =
    (1, not (sound ws))
    ∷ (2, unnumbered (categories ws) p.category)
    ∷ (3, not (is_group p.group))
    ∷ (4, has_closed here)
    ∷ (6, unsuited_group here.kind p.group)
    ∷ (7, not (is_quantity p.quantity && is_factor p.operation_factor && is_factor p.provision_factor))
    ∷ (8, leb most_entries (entries ws))
    ∷ (10, passes_limits (with_entry (sums_of ws) (posted_entry p)))
    ∷ []

abbrev pub post_grounds : List ℕ → PostArguments → List Ground
post_grounds ws p = post_grounds_in ws p (category_of ws p.category)

unfoldable pub post_refusal : List ℕ → PostArguments → ℕ
post_refusal ws p = first_of (post_grounds ws p)

unfoldable pub post_reply : List ℕ → PostArguments → Reply
post_reply ws p = reply_of (post_refusal ws p) (entries ws + 1)

unfoldable pub post_book : List ℕ → PostArguments → List ℕ
post_book ws p = accepted (post_refusal ws p) (add_entry ws (posted_entry p)) ws

-- "**enrol** (category, chain, code, amount, distance)"; kg per head: "Enrol takes it as a last number". `here` is the record of the
-- category
abbrev pub enrolled_element : Category → EnrolArguments → Element
enrolled_element here e =
    record {
      category = e.category;
      chain = e.chain;
      code = e.code;
      amount = e.amount;
      distance = e.distance;
      activity = activity_of here.kind e.code e.amount e.distance;
      operation = 0;
      provision = 0;
      kg_per_head = e.kg_per_head;
    }

-- the measures of an enrolment are in range; ground 7 is that one is not
abbrev pub enrol_in_range : Category → EnrolArguments → Bool
enrol_in_range here e =
    is_amount e.code e.amount
    && is_distance_in here.kind e.distance
    && is_kg_per_head e.code e.kg_per_head

-- "It refuses with 14, checked after 6, a passenger element that is weighed when an earlier one in its category is not, or the
-- reverse"
abbrev pub enrol_grounds_in : List ℕ → EnrolArguments → Category → List Ground
enrol_grounds_in ws e here =
    (1, not (sound ws))
    ∷ (2, unnumbered (categories ws) e.category)
    ∷ (3, not (is_chain e.chain && is_code e.code))
    ∷ (4, has_closed here)
    ∷ (6, unsuited here.kind e.code)
    ∷ (14, mixes ws (elements ws) e.category e.code e.kg_per_head)
    ∷ (7, not (enrol_in_range here e))
    ∷ (8, leb most_elements (elements ws))
    ∷ (10, passes_limits (with_element (sums_of ws) (enrolled_element here e)))
    ∷ []

abbrev pub enrol_grounds : List ℕ → EnrolArguments → List Ground
enrol_grounds ws e = enrol_grounds_in ws e (category_of ws e.category)

unfoldable pub enrol_refusal : List ℕ → EnrolArguments → ℕ
enrol_refusal ws e = first_of (enrol_grounds ws e)

unfoldable pub enrol_reply : List ℕ → EnrolArguments → Reply
enrol_reply ws e = reply_of (enrol_refusal ws e) (elements ws + 1)

unfoldable pub enrol_book : List ℕ → EnrolArguments → List ℕ
enrol_book ws e =
    accepted (enrol_refusal ws e) (add_element ws (enrolled_element (category_of ws e.category) e)) ws

-- "**Strike** (entry) sets its struck word; the record still counts towards 64." `named` is the record of the entry, and `here`
-- that of its category
abbrev pub strike_grounds_in : List ℕ → ℕ → Entry → Category → List Ground
strike_grounds_in ws entry named here =
    (1, not (sound ws))
    ∷ (2, unnumbered (entries ws) entry)
    ∷ (4, has_closed here || not (eqb named.struck 0))
    ∷ []

abbrev pub strike_grounds : List ℕ → ℕ → List Ground
strike_grounds ws entry = strike_grounds_in ws entry (entry_of ws entry) (category_of ws (entry_of ws entry).category)

unfoldable pub strike_refusal : List ℕ → ℕ → ℕ
strike_refusal ws entry = first_of (strike_grounds ws entry)

unfoldable pub strike_book : List ℕ → ℕ → List ℕ
strike_book ws entry = accepted (strike_refusal ws entry) (strike_entry ws entry) ws

-- "D is the distance, or with adjust 1 the distance plus 95,000 (the air default, Annex A.3.2)."
abbrev pub adjusted : QuoteArguments → ℕ
adjusted q = cond (eqb q.adjust 1) (q.distance + 95_000) q.distance

-- "two intensities in mg per tonne-km", by their sides
abbrev pub quoted_intensity : Side → QuoteArguments → ℕ
quoted_intensity operation q = q.operation_intensity
quoted_intensity provision q = q.provision_intensity

-- "shares (intensity × mass × D / 1000), nearest"; halves by document 02's "Quotes, intensities and workbook cells follow from now on"
unfoldable pub quoted_amount : Side → QuoteArguments → ℕ
quoted_amount side q = nearest (quoted_intensity side q * q.mass * adjusted q) 1000

-- "**Quote** (chain, adjust, mass, distance, two intensities in mg per tonne-km) appends an element of category 0, code 0";
-- "Its activity is mass × distance."; "freight and quotes hold 0"
abbrev pub quoted_element : QuoteArguments → Element
quoted_element q =
    record {
      category = 0;
      chain = q.chain;
      code = 0;
      amount = q.mass;
      distance = q.distance;
      activity = q.mass * q.distance;
      operation = quoted_amount operation q;
      provision = quoted_amount provision q;
      kg_per_head = 0;
    }

-- the measures of a quote are in range; ground 7 is that one is not
abbrev pub quote_in_range : QuoteArguments → Bool
quote_in_range q =
    is_mass q.mass
    && is_distance q.distance
    && is_intensity q.operation_intensity
    && is_intensity q.provision_intensity

abbrev pub quote_grounds : List ℕ → QuoteArguments → List Ground
quote_grounds ws q =
    (1, not (sound ws))
    ∷ (3, not (is_chain q.chain && is_adjust q.adjust))
    ∷ (7, not (quote_in_range q))
    ∷ (8, leb most_elements (elements ws))
    ∷ (10, passes_limits (with_element (sums_of ws) (quoted_element q)))
    ∷ []

unfoldable pub quote_refusal : List ℕ → QuoteArguments → ℕ
quote_refusal ws q = first_of (quote_grounds ws q)

unfoldable pub quote_reply : List ℕ → QuoteArguments → Reply
quote_reply ws q = reply_of (quote_refusal ws q) (elements ws + 1)

unfoldable pub quote_book : List ℕ → QuoteArguments → List ℕ
quote_book ws q = accepted (quote_refusal ws q) (add_element ws (quoted_element q)) ws
