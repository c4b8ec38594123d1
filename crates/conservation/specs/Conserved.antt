-- Demand 3, which begins: "The emissions of a book are all handed out, and none twice." By document 01, "Demand 3 takes the elements
-- of a chain or category, and what is accepted, struck or closed, from the tally after the list." Assumes nothing.
use Rattle.std.specs.Prelude.{Bool, true, false, cond, not, ◌&&◌, List, [], ◌∷◌, ◌≡◌, ℕ, ◌+◌, ◌-◌, ◌≤◌, eqb, length}
use Rattle.std.proofs.Math.Option.{some}
use Rattle.apportion.specs.Fractions.{Fraction}
use Rattle.apportion.specs.Nearness.{Within}
use Rattle.apportion.specs.Places.{sum_below, one_if}
use Rattle.book_words.specs.Book.{book_length, element_at}
use Rattle.book_words.specs.Measures.{heads_by_mass, most_chains}
use Rattle.book_words.specs.declared.totals.Side.{Side}
use Rattle.book_words.specs.declared.totals.Side.TheVariants.{Operation as operation, Provision as provision}
use Rattle.book_words.specs.Totals.{share_of}
use Rattle.book_shares.specs.Shares.{exact_share}
use Rattle.book_shares.specs.Sums.{Recipients, Freight, Passengers, Group, if_recipient}
use Rattle.book.specs.Statements.{StatementReply}
use Rattle.book.specs.Calls.{fresh_refusal}
use Rattle.book.specs.Statements.{statement_reply}
use Rattle.conservation.specs.declared.Call.{Call}
use Rattle.conservation.specs.Runs.{run_of}
use Rattle.conservation.specs.Tally.{TallyEntry, Enrolment, Quotation, TallyElement, enrolled, quoted, Tally, numbered, closed_in}

-- the sum over records that are numbered from this number on
abbrev pub sum_from : {A : Type 0} → ℕ → List A → (ℕ → A → ℕ) → ℕ
sum_from number [] f = 0
sum_from number (x ∷ xs) f = f number x + sum_from (number + 1) xs f

-- the sum over the records of a list of the tally, "from 1 in order"
abbrev pub sum_numbered : {A : Type 0} → List A → (ℕ → A → ℕ) → ℕ
sum_numbered xs f = sum_from 1 xs f

-- the same of what does not look at the numbers
abbrev pub sum_over : {A : Type 0} → List A → (A → ℕ) → ℕ
sum_over xs f = sum_numbered xs (λ k x. f x)

-- "What element k gets is the two share words of the book's element record k"
abbrev pub gets : List ℕ → ℕ → Side → ℕ
gets ws k side = share_of side (element_at ws (k - 1))

-- the element's chain
abbrev pub chain_of : TallyElement → ℕ
chain_of (enrolled e) = e.arguments.chain
chain_of (quoted q) = q.chain

-- the element is in an open category; a quote is in none
abbrev pub waits_in : Tally → TallyElement → Bool
waits_in t (enrolled e) = not (closed_in t e.arguments.category)
waits_in t (quoted q) = false

-- what the elements of a chain get
abbrev pub chain_gets : Tally → List ℕ → ℕ → Side → ℕ
chain_gets t ws chain side = sum_numbered t.elements (λ k e. cond (eqb (chain_of e) chain) (gets ws k side) 0)

-- the statement that "adds the shares of its own chain's elements and no others"
abbrev pub statement_in : Tally → List ℕ → ℕ → StatementReply
statement_in t ws chain =
    record {
      refusal = 0;
      elements = sum_over t.elements (λ e. one_if (eqb (chain_of e) chain));
      waiting = sum_over t.elements (λ e. one_if (eqb (chain_of e) chain && waits_in t e));
      operation = chain_gets t ws chain operation;
      provision = chain_gets t ws chain provision;
      total = chain_gets t ws chain operation + chain_gets t ws chain provision;
    }

-- an amount of this side: an entry's, where it is not struck, a quote's and a statement's
abbrev pub unstruck_on : Side → TallyEntry → ℕ
unstruck_on operation e = cond e.struck 0 e.operation
unstruck_on provision e = cond e.struck 0 e.provision

abbrev pub quoted_on : Side → Quotation → ℕ
quoted_on operation q = q.operation
quoted_on provision q = q.provision

abbrev pub stated_on : Side → StatementReply → ℕ
stated_on operation s = s.operation
stated_on provision s = s.provision

-- "the sum of quantity times factor over the accepted entries that are not struck and whose category is closed, plus the amounts that
-- document 01 defines for the accepted quotes": what an entry adds, what an element does, and the sum of a side
abbrev pub entry_emissions : Tally → Side → TallyEntry → ℕ
entry_emissions t side e = cond (closed_in t e.category) (unstruck_on side e) 0

abbrev pub element_emissions : Side → TallyElement → ℕ
element_emissions side (enrolled e) = 0
element_emissions side (quoted q) = quoted_on side q

unfoldable pub emissions : Tally → Side → ℕ
emissions t side =
    sum_over t.entries (entry_emissions t side) + sum_over t.elements (element_emissions side)

-- "The A, B, F, P, C and S of its exact shares are sums over the tally too.": A and B are the pools of groups 0, 1 and 2
unfoldable pub pool_in : Tally → ℕ → ℕ → Side → ℕ
pool_in t category group side =
    sum_over t.entries (λ e. cond (eqb e.category category) (cond (eqb e.group group) (unstruck_on side e) 0) 0)

-- what an enrolment in the category, with the code of these recipients, measures; 0 for any other element
abbrev pub among_in : ℕ → Recipients → (Enrolment → ℕ) → TallyElement → ℕ
among_in category recipients measure (enrolled e) =
    cond (eqb e.arguments.category category) (if_recipient recipients e.arguments.code (measure e)) 0
among_in category recipients measure (quoted q) = 0

-- "F is the freight activity", "C is the passengers' activity", and S is a group's "activity"
unfoldable pub activity_in : Tally → ℕ → Recipients → ℕ
activity_in t category recipients = sum_over t.elements (among_in category recipients (λ e. e.activity))

-- an enrolment's passengers by mass
abbrev pub by_stated_mass_in : Enrolment → ℕ
by_stated_mass_in e = heads_by_mass e.arguments.amount e.arguments.kg_per_head e.arguments.distance

-- "P is the sum of head count × 100 × distance (100 kg per passenger, Annex A.4.2)"; "P uses the stated mass, and so does the exact
-- share"
unfoldable pub mass_in : Tally → ℕ → ℕ
mass_in t category = sum_over t.elements (among_in category Passengers by_stated_mass_in)

-- the exact share of an enrolment, by these sums
unfoldable pub exact_in : Tally → Side → Enrolment → Fraction
exact_in t side e =
    exact_share
    (pool_in t e.arguments.category 0 side)
    (activity_in t e.arguments.category Freight)
    (mass_in t e.arguments.category)
    (activity_in t e.arguments.category Passengers)
    (λ g. pool_in t e.arguments.category g side)
    (λ g. activity_in t e.arguments.category (Group g))
    e.arguments.code
    e.activity

-- demand 3, sentence by sentence
pub record Conserved (t : Tally) (ws : List ℕ) : Type 0 where
  -- "Each statement adds the shares of its own chain's elements and no others." Each is accepted
  pub each_statement : (chain : ℕ) → 1 ≤ chain → chain ≤ most_chains → statement_reply ws chain ≡ statement_in t ws chain
  -- "Operation emissions, added over the statements of chains 1 to 10,000, equal the sum of quantity times factor over the accepted
  -- entries that are not struck and whose category is closed, plus the amounts that document 01 defines for the accepted quotes.
  -- Provision emissions do likewise."
  pub all_handed_out : (side : Side) → sum_below most_chains (λ p. stated_on side (statement_reply ws (p + 1))) ≡ emissions t side
  -- "Every element of a closed category gets less than 3 micrograms more or less than its exact share, a fraction that document 01
  -- defines, for operation and for provision."
  pub closed_near : (k : ℕ) (e : Enrolment) → numbered t.elements k ≡ some (enrolled e) → closed_in t e.arguments.category ≡ true
      → (side : Side) → Within 3 (gets ws k side) (exact_in t side e).numerator (exact_in t side e).denominator
  -- "Every quoted element gets exactly its two amounts,"
  pub quoted_exact : (k : ℕ) (q : Quotation) → numbered t.elements k ≡ some (quoted q) → (side : Side) → gets ws k side ≡ quoted_on side q
  -- "and every element of an open category gets none."
  pub open_none : (k : ℕ) (e : Enrolment) → numbered t.elements k ≡ some (enrolled e) → closed_in t e.arguments.category ≡ false
      → (side : Side) → gets ws k side ≡ 0

-- "For every list of opens, posts, strikes, enrolments, quotes and closings from a fresh book, refused ones included, this holds
-- after it."; "Demand 3's lists may hold lines". The fresh is accepted on any words that have room for a book
abbrev pub Conservation : Type 0
Conservation =
    (words : List ℕ) → book_length ≤ length words → (calls : List Call)
    → (fresh_refusal words ≡ 0) × Conserved (run_of words calls).tally (run_of words calls).book
