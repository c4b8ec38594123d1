-- "Reckoned by hand (* proved)": the starred cases, in one table. Assumes nothing.
use Rattle.std.specs.Prelude.{false, List, [], ◌∷◌, ◌≡◌, ℕ, ◌-◌, Float, negsuc, length, replicate}
use Rattle.std.specs.Float.{fin}
use Rattle.apportion.specs.Dividing.{shares_after}
use Rattle.apportion.specs.Places.{list_below, sum_of}
use Rattle.book_words.specs.Book.{book_length, elements, element_at}
use Rattle.book_words.specs.declared.totals.Side.{Side}
use Rattle.book_words.specs.declared.totals.Side.TheVariants.{Operation as operation, Provision as provision}
use Rattle.book_words.specs.Totals.{share_of}
use Rattle.workbook.specs.declared.cells.Cell.{Cell}
use Rattle.workbook.specs.declared.cells.Cell.TheVariants.{Blank, Number, Span}
use Rattle.conservation.specs.declared.Call.{Call}
use Rattle.conservation.specs.declared.Call.TheVariants.{Open, Post, Line, Enrol, Quote, Close}
use Rattle.conservation.specs.Conserved.{emissions}
use Rattle.conservation.specs.Runs.{Run, run_of}

-- a pool over weights, or calls from a fresh book
pub data Case : Type 0 where
  division : ℕ → List ℕ → Case
  calls_made : List Call → Case

-- the shares of all elements of a book
abbrev pub all_shares : List ℕ → Side → List ℕ
all_shares ws side = list_below (elements ws) (λ p. share_of side (element_at ws p))

-- the calls, on a slice of zeros that is as long as a book
abbrev pub run_from : List Call → Run
run_from made = run_of (replicate book_length 0) made

-- the shares that are reckoned: those that the dividing rule writes into a slice of sevens, or those of the elements after the calls
abbrev pub reckoned : Case → Side → List ℕ
reckoned (division amount weights) side = shares_after amount weights (replicate (length weights) 7)
reckoned (calls_made made) side = all_shares (run_from made).book side

-- what there is to hand out: the pool, or the emissions that the tally counts
abbrev pub to_hand_out : Case → Side → ℕ
to_hand_out (division amount weights) side = amount
to_hand_out (calls_made made) side = emissions (run_from made).tally side

-- a row holds what is expected of operation and of provision apart
pub record Row : Type 0 where
  pub case : Case
  pub operation : List ℕ
  pub provision : List ℕ

abbrev pub row : Case → List ℕ → List ℕ → Row
row case on_operation on_provision = record { case = case; operation = on_operation; provision = on_provision }

-- a division by itself has no sides: the same shares are expected on both
abbrev division_row : ℕ → List ℕ → List ℕ → Row
division_row amount weights shares = row (division amount weights) shares shares

-- a post to category 1: group, quantity, operation factor, provision factor
abbrev post_call : ℕ → ℕ → ℕ → ℕ → Call
post_call group quantity operation_factor provision_factor =
    Post
    (record {
      category = 1;
      group = group;
      quantity = quantity;
      operation_factor = operation_factor;
      provision_factor = provision_factor;
    })

-- the double m / 2^k, k above 0
abbrev double : ℕ → ℕ → Float
double m k = fin false m (negsuc (k - 1))

-- a line for category 1, group 0: its three cells
abbrev line_call : Cell → Cell → Cell → Call
line_call quantity operation_factor provision_factor =
    Line
    (record {
      category = 1;
      group = 0;
      line = record { quantity = quantity; operation_factor = operation_factor; provision_factor = provision_factor };
    })

-- an enrolment in category 1 over 1 m: chain, code, amount, kg per head
abbrev enrol_call : ℕ → ℕ → ℕ → ℕ → Call
enrol_call chain code amount kg_per_head =
    Enrol
    (record { category = 1; chain = chain; code = code; amount = amount; distance = 1; kg_per_head = kg_per_head })

-- "Kind 3, A 9, freight activity 100, one head each of codes 100 and 400 over 1 m", A 27 on provision, heads of this mass
abbrev shared_voyage : ℕ → Case
shared_voyage kg_per_head =
    calls_made
    (Open 3
    ∷ post_call 0 9 1 3
    ∷ enrol_call 1 0 100 0
    ∷ enrol_call 2 100 1 kg_per_head
    ∷ enrol_call 3 400 1 kg_per_head
    ∷ Close 1
    ∷ [])

-- a quote for chain 1: adjust, mass, distance, operation intensity, provision intensity
abbrev quote_call : ℕ → ℕ → ℕ → ℕ → ℕ → Call
quote_call adjust mass distance operation_intensity provision_intensity =
    Quote
    (record {
      chain = 1;
      adjust = adjust;
      mass = mass;
      distance = distance;
      operation_intensity = operation_intensity;
      provision_intensity = provision_intensity;
    })

-- The papers' numbers are those of operation. Where the factors or the intensities of provision are others, its shares are reckoned
-- by hand beside the row.
abbrev pub starred : List Row
starred =
    -- "*10 over 1,1,1: 4,3,3. *10 over 1,2,4: 1,3,6. *1 over 1,1: 1,0. *2 over 1,1,1,1: 1,1,0,0. *0 over 5: 0."
    division_row 10 (1 ∷ 1 ∷ 1 ∷ []) (4 ∷ 3 ∷ 3 ∷ [])
    ∷ division_row 10 (1 ∷ 2 ∷ 4 ∷ []) (1 ∷ 3 ∷ 6 ∷ [])
    ∷ division_row 1 (1 ∷ 1 ∷ []) (1 ∷ 0 ∷ [])
    ∷ division_row 2 (1 ∷ 1 ∷ 1 ∷ 1 ∷ []) (1 ∷ 1 ∷ 0 ∷ 0 ∷ [])
    ∷ division_row 0 (5 ∷ []) (0 ∷ [])
    -- "*Kind 3, A 9, freight activity 100, one head each of codes 100 and 400 over 1 m: 3, 1, 5."
    -- Provision: A 27 over F 100 and P 200 is 9 and 18; 18 over 100 and 400 is 3 and 14, and the unit left over goes to the first
    ∷ row (shared_voyage 0) (3 ∷ 1 ∷ 5 ∷ []) (9 ∷ 4 ∷ 14 ∷ [])
    -- The same with heads of 50 kg, for request (ii); document 02 has no number of its own. A 9 over F 100 and P 100 is 4 and 4, and the
    -- unit left over goes to the first; 4 over 100 and 400 is 0 and 3, and the unit left over goes to the first, which has the larger
    -- remainder.
    -- Provision: A 27 is 14 and 13; 13 over 100 and 400 is 2 and 10, and the unit left over goes to the first
    ∷ row (shared_voyage 50) (5 ∷ 1 ∷ 3 ∷ []) (14 ∷ 3 ∷ 10 ∷ [])
    -- "*A 8, B1 5, ambient 100, chilled 300: 2 and 11."
    -- Provision: A 16 over 100 and 300 is 4 and 12, and B1 5 is the chilled element's
    ∷ row
    (calls_made
    (Open 1
    ∷ post_call 0 8 1 2
    ∷ post_call 1 5 1 1
    ∷ enrol_call 1 0 100 0
    ∷ enrol_call 2 1 300 0
    ∷ Close 1
    ∷ []))
    (2 ∷ 11 ∷ [])
    (4 ∷ 17 ∷ [])
    -- For request (iii); document 02 has no example. 12.5 units, 3.125 to 3.375 grams and 0.0625 grams per unit: the quantity is 12,500,
    -- the span's ends become 3,125 and 3,375 mg and their mean is 3,250, and 62.5 becomes 62 mg. A line with a blank cell and one whose
    -- span is exchanged are refused and add nothing.
    ∷ row
    (calls_made
    (Open 1
    ∷ line_call (Number (double 25 1)) (Span (double 25 3) (double 27 3)) (Number (double 1 4))
    ∷ line_call (Number (double 25 1)) Blank (Number (double 1 4))
    ∷ line_call (Number (double 25 1)) (Span (double 27 3) (double 25 3)) (Number (double 1 4))
    ∷ enrol_call 1 0 100 0
    ∷ Close 1
    ∷ []))
    (40_625_000 ∷ [])
    (775_000 ∷ [])
    -- "*Quote 1, 500 kg, 1 m: 1." before request (vi), by which "The starred quote of half a microgram becomes 0, and 1.5 stays 2."
    -- Provision: intensity 5 is 2.5 and becomes 2; for 1,500 kg intensity 3 is 4.5 and becomes 4
    ∷ row (calls_made (quote_call 0 500 1 1 5 ∷ [])) (0 ∷ []) (2 ∷ [])
    ∷ row (calls_made (quote_call 0 1500 1 1 3 ∷ [])) (2 ∷ []) (4 ∷ [])
    -- "*Quote 600000, adjust 1, 1000 kg, 905,000 m: 600,000,000,000."
    -- Provision: the same intensity
    ∷ row (calls_made (quote_call 1 1000 905_000 600_000 600_000 ∷ [])) (600_000_000_000 ∷ []) (600_000_000_000 ∷ [])
    ∷ []

-- the shares that a row expects on a side
abbrev pub expected : Row → Side → List ℕ
expected r operation = r.operation
expected r provision = r.provision

-- on this side a row is as it was reckoned by hand, and its shares are all that there is to hand out
abbrev pub HoldsOn : Row → Side → Type 0
HoldsOn r side = (reckoned r.case side ≡ expected r side) × (to_hand_out r.case side ≡ sum_of (expected r side))

-- a row holds on both sides
abbrev pub Holds : Row → Type 0
Holds r = HoldsOn r operation × HoldsOn r provision

-- every row holds
abbrev pub EveryRow : List Row → Type 0
EveryRow [] = Unit {0}
EveryRow (r ∷ rs) = Holds r × EveryRow rs
