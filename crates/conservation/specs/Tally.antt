-- "The tally is kept beside the book and takes nothing from it. It is fed each call with its arguments and refusal number."
-- Assumes nothing.
use Rattle.std.specs.Prelude.{Bool, true, false, List, [], ◌∷◌, ◌++◌, ℕ, zero, suc}
use Rattle.std.proofs.Math.Option.{Option, none, some}
use Rattle.apportion.specs.Grounds.{accepted}
use Rattle.book_words.specs.Measures.{activity_of}
use Rattle.book_words.specs.declared.totals.Side.TheVariants.{Operation as operation, Provision as provision}
use Rattle.book.specs.Calls.{posted_amount, quoted_amount}
use Rattle.book.specs.Lines.{line_post}
use Rattle.book.specs.declared.arguments.EnrolArguments.{EnrolArguments}
use Rattle.book.specs.declared.arguments.PostArguments.{PostArguments}
use Rattle.book.specs.declared.arguments.QuoteArguments.{QuoteArguments}
use Rattle.conservation.specs.declared.Call.{Call}
use Rattle.conservation.specs.declared.Call.TheVariants.{Open, Post, Line, Strike, Enrol, Quote, Close}

pub record TallyCategory : Type 0 where
  pub kind : ℕ
  pub closed : Bool

pub record TallyEntry : Type 0 where
  pub category : ℕ
  pub group : ℕ
  pub operation : ℕ
  pub provision : ℕ
  pub struck : Bool

-- an enrolment's "arguments and activity"
pub record Enrolment : Type 0 where
  pub arguments : EnrolArguments
  pub activity : ℕ

-- a quote's "chain and its two amounts, operation and provision"
pub record Quotation : Type 0 where
  pub chain : ℕ
  pub operation : ℕ
  pub provision : ℕ

pub data TallyElement : Type 0 where
  enrolled : Enrolment → TallyElement
  quoted : Quotation → TallyElement

pub record Tally : Type 0 where
  pub categories : List TallyCategory
  pub entries : List TallyEntry
  pub elements : List TallyElement

-- "It starts without categories, entries or elements,"
abbrev pub empty_tally : Tally
empty_tally = record { categories = []; entries = []; elements = [] }

-- "and numbers each of the three from 1 in order.": the record of this number, where there is one
abbrev pub numbered : {A : Type 0} → List A → ℕ → Option A
numbered [] number = none
numbered (x ∷ xs) zero = none
numbered (x ∷ xs) (suc zero) = some x
numbered (x ∷ xs) (suc (suc n)) = numbered xs (suc n)

-- the records with the one of this number changed
abbrev pub changed_at : {A : Type 0} → (A → A) → List A → ℕ → List A
changed_at f [] number = []
changed_at f (x ∷ xs) zero = x ∷ xs
changed_at f (x ∷ xs) (suc zero) = f x ∷ xs
changed_at f (x ∷ xs) (suc (suc n)) = x ∷ changed_at f xs (suc n)

-- a category's kind; 0 where there is no such category, which no accepted call names
abbrev pub kind_of : Option TallyCategory → ℕ
kind_of none = 0
kind_of (some c) = c.kind

-- there is such a category, and it is closed
abbrev pub closed_of : Option TallyCategory → Bool
closed_of none = false
closed_of (some c) = c.closed

-- the category of this number is there and closed
unfoldable pub closed_in : Tally → ℕ → Bool
closed_in t category = closed_of (numbered t.categories category)

-- "An accepted open adds a category of that kind, not closed."
abbrev pub tally_open : Tally → ℕ → Tally
tally_open t kind =
    record {
      categories = t.categories ++ (record { kind = kind; closed = false } ∷ []);
      entries = t.entries;
      elements = t.elements;
    }

-- "An accepted post adds an entry: category, group, quantity × operation factor, quantity × provision factor, not struck."
abbrev pub tally_post : Tally → PostArguments → Tally
tally_post t p =
    record {
      categories = t.categories;
      entries = t.entries
          ++ (record {
            category = p.category;
            group = p.group;
            operation = posted_amount operation p;
            provision = posted_amount provision p;
            struck = false;
          }
          ∷ []);
      elements = t.elements;
    }

-- "An accepted strike marks the entry it names as struck."
abbrev pub mark_struck : TallyEntry → TallyEntry
mark_struck e =
    record {
      category = e.category;
      group = e.group;
      operation = e.operation;
      provision = e.provision;
      struck = true;
    }

abbrev pub tally_strike : Tally → ℕ → Tally
tally_strike t entry =
    record { categories = t.categories; entries = changed_at mark_struck t.entries entry; elements = t.elements }

-- an element is added behind the others
abbrev pub tally_add : Tally → TallyElement → Tally
tally_add t e = record { categories = t.categories; entries = t.entries; elements = t.elements ++ (e ∷ []) }

-- "An accepted enrolment adds an element with its arguments and activity."
abbrev pub tally_enrol : Tally → EnrolArguments → Tally
tally_enrol t e =
    tally_add t
    (enrolled
    (record {
      arguments = e;
      activity = activity_of (kind_of (numbered t.categories e.category)) e.code e.amount e.distance;
    }))

-- "An accepted quote adds an element with its chain and its two amounts, operation and provision, by the formula and rounding
-- under quote."
abbrev pub tally_quote : Tally → QuoteArguments → Tally
tally_quote t q =
    tally_add t
    (quoted (record { chain = q.chain; operation = quoted_amount operation q; provision = quoted_amount provision q }))

-- "An accepted closing marks the category it names as closed."
abbrev pub mark_closed : TallyCategory → TallyCategory
mark_closed c = record { kind = c.kind; closed = true }

abbrev pub tally_close : Tally → ℕ → Tally
tally_close t category =
    record { categories = changed_at mark_closed t.categories category; entries = t.entries; elements = t.elements }

-- what an accepted call makes of the tally; "in the tally an accepted line is this post, of its converted cells"
abbrev pub tallied : Tally → Call → Tally
tallied t (Open kind) = tally_open t kind
tallied t (Post p) = tally_post t p
tallied t (Line l) = tally_post t (line_post l)
tallied t (Strike entry) = tally_strike t entry
tallied t (Enrol e) = tally_enrol t e
tallied t (Quote q) = tally_quote t q
tallied t (Close category) = tally_close t category

-- "A refused call changes nothing in it."
abbrev pub feed : Tally → Call → ℕ → Tally
feed t call refusal = accepted refusal (tallied t call) t
