-- The walk of a statement: "amounts and waiting count are to come from one walk over the elements". Assumes nothing.
use Rattle.std.specs.Prelude.{Bool, cond, ◌&&◌, List, ◌≡◌, ◌≤◌, ℕ, zero, suc, ◌+◌}
use Rattle.apportion.specs.Places.{sum_below, count_below, one_if}
use Rattle.book_words.specs.Book.{element_at, elements}
use Rattle.book_words.specs.declared.totals.Side.TheVariants.{Operation as operation, Provision as provision}
use Rattle.book_words.specs.Totals.{most_emissions, share_of}
use Rattle.book_words.specs.declared.records.Element.{Element}
use Rattle.book.specs.Statements.{StatementReply}
use Rattle.book.specs.declared.walks.Held.{Held}
use Rattle.book.specs.Statements.{of_chain, waits, statement_reply}

-- "after the first k elements the walk holds elements, waiting, operation and provision over the chain's elements among them": here
-- over those that pass a test, which for a statement is `of_chain chain`
unfoldable pub held_after : List ℕ → (Element → Bool) → ℕ → Held
held_after ws test k =
    record {
      elements = count_below k (λ p. test (element_at ws p));
      waiting = count_below k (λ p. test (element_at ws p) && waits ws (element_at ws p));
      operation = sum_below k (λ p. cond (test (element_at ws p)) (share_of operation (element_at ws p)) 0);
      provision = sum_below k (λ p. cond (test (element_at ws p)) (share_of provision (element_at ws p)) 0);
    }

-- the walk holds nothing at its start
abbrev pub nothing : Held
nothing = record { elements = 0; waiting = 0; operation = 0; provision = 0 }

-- what one element adds to what the walk holds, where it passes the test
abbrev pub held_with : List ℕ → (Element → Bool) → Held → Element → Held
held_with ws test held e =
    cond (test e)
    (record {
      elements = held.elements + 1;
      waiting = held.waiting + one_if (waits ws e);
      operation = held.operation + e.operation;
      provision = held.provision + e.provision;
    })
    held

-- "one walk over the elements", the first k of them one after the other
abbrev pub walk_over : List ℕ → (Element → Bool) → ℕ → Held
walk_over ws test zero = nothing
walk_over ws test (suc k) = held_with ws test (walk_over ws test k) (element_at ws k)

-- "what it then holds, with the total"
abbrev pub with_total : Held → StatementReply
with_total held =
    record {
      refusal = 0;
      elements = held.elements;
      waiting = held.waiting;
      operation = held.operation;
      provision = held.provision;
      total = held.operation + held.provision;
    }

-- sums within the limits of a book, 10^18, so that the total fits in 64 bits
pub record HeldFits (held : Held) : Type 0 where
  pub operation_most : held.operation ≤ most_emissions
  pub provision_most : held.provision ≤ most_emissions

-- the walk of a statement: what it holds "for every k up to the last, and the reply is what it then holds, with the total"
pub record StatementWalk (ws : List ℕ) (chain : ℕ) : Type 0 where
  pub holds : (k : ℕ) → walk_over ws (of_chain chain) k ≡ held_after ws (of_chain chain) k
  pub replies : statement_reply ws chain ≡ with_total (walk_over ws (of_chain chain) (elements ws))
