-- "**Statement** (chain) returns, counted and added over the elements of that chain alone, elements, waiting (those in open
-- categories), operation, provision, total (operation plus provision); zeros for an unused chain." Assumes nothing.
use Rattle.std.specs.Prelude.{Result, Ok, Err, Bool, cond, not, ◌&&◌, List, ◌∷◌, [], ℕ, ◌+◌, eqb}
use Rattle.apportion.specs.Grounds.{Ground, first_of, accepted}
use Rattle.apportion.specs.Places.{sum_below, count_below}
use Rattle.book_words.specs.Book.{elements, element_at, is_closed}
use Rattle.book_words.specs.Measures.{is_chain}
use Rattle.book_words.specs.Soundness.{sound}
use Rattle.book_words.specs.declared.totals.Side.{Side}
use Rattle.book_words.specs.declared.totals.Side.TheVariants.{Operation as operation, Provision as provision}
use Rattle.book_words.specs.Totals.{share_of}
use Rattle.book_words.specs.declared.records.Element.{Element}
use Rattle.apportion.specs.Refusals.{number_of}
use Rattle.apportion.specs.declared.refusing.Refusal.{Refusal}
use Rattle.book.specs.declared.replies.Statement.{Statement}

-- what a statement returns: its refusal number, and the numbers beside it
pub record StatementReply : Type 0 where
  pub refusal : ℕ
  pub elements : ℕ
  pub waiting : ℕ
  pub operation : ℕ
  pub provision : ℕ
  pub total : ℕ

-- these without the refusal number, in the order in which they are printed
abbrev pub statement_numbers : StatementReply → List ℕ
statement_numbers s = s.elements ∷ s.waiting ∷ s.operation ∷ s.provision ∷ s.total ∷ []

-- an element of this chain
abbrev pub of_chain : ℕ → Element → Bool
of_chain chain e = eqb e.chain chain

-- one "in open categories"; a quoted element is in none
abbrev pub waits : List ℕ → Element → Bool
waits ws e = not (eqb e.category 0) && not (is_closed ws e.category)

-- "counted and added over" the elements that pass a test: how many there are, how many of them wait, and their shares of a side
unfoldable pub elements_over : List ℕ → (Element → Bool) → ℕ
elements_over ws test = count_below (elements ws) (λ p. test (element_at ws p))

unfoldable pub waiting_over : List ℕ → (Element → Bool) → ℕ
waiting_over ws test = count_below (elements ws) (λ p. test (element_at ws p) && waits ws (element_at ws p))

unfoldable pub shares_over : List ℕ → (Element → Bool) → Side → ℕ
shares_over ws test side = sum_below (elements ws) (λ p. cond (test (element_at ws p)) (share_of side (element_at ws p)) 0)

-- "elements, waiting (those in open categories), operation, provision, total (operation plus provision)", over these elements
abbrev pub statement_over : List ℕ → (Element → Bool) → StatementReply
statement_over ws test =
    record {
      refusal = 0;
      elements = elements_over ws test;
      waiting = waiting_over ws test;
      operation = shares_over ws test operation;
      provision = shares_over ws test provision;
      total = shares_over ws test operation + shares_over ws test provision;
    }

abbrev pub statement_grounds : List ℕ → ℕ → List Ground
statement_grounds ws chain =
    (1, not (sound ws))
    ∷ (3, not (is_chain chain))
    ∷ []

unfoldable pub statement_refusal : List ℕ → ℕ → ℕ
statement_refusal ws chain = first_of (statement_grounds ws chain)

-- what an accepted statement answers, "over the elements of that chain alone"
unfoldable pub statement_of : List ℕ → ℕ → StatementReply
statement_of ws chain = statement_over ws (of_chain chain)

-- zeros beside this refusal number; "A refusal returns its number with zeros"
abbrev pub zeros_beside : ℕ → StatementReply
zeros_beside refusal =
    record { refusal = refusal; elements = 0; waiting = 0; operation = 0; provision = 0; total = 0 }

unfoldable pub statement_reply : List ℕ → ℕ → StatementReply
statement_reply ws chain =
    accepted (statement_refusal ws chain) (statement_of ws chain) (zeros_beside (statement_refusal ws chain))

-- what an answer returns, for each of its cases
abbrev pub reply_with : Statement → StatementReply
reply_with s =
    record {
      refusal = 0;
      elements = s.elements;
      waiting = s.waiting;
      operation = s.operation;
      provision = s.provision;
      total = s.total;
    }

abbrev pub statement_reply_in : Result Statement Refusal → StatementReply
statement_reply_in (Ok s) = reply_with s
statement_reply_in (Err refusal) = zeros_beside (number_of refusal)
