-- The class total from the tally alone: after every list of calls it is what is to be handed out. Assumes nothing.
use Rattle.std.specs.Prelude.{List, ◌≡◌, ℕ, ◌+◌, ◌≤◌, length}
use Rattle.apportion.specs.Places.{one_if}
use Rattle.book_words.specs.Book.{book_length}
use Rattle.book_words.specs.declared.totals.Side.TheVariants.{Operation as operation, Provision as provision}
use Rattle.book.specs.ClassTotal.{class_total}
use Rattle.book.specs.Statements.{StatementReply}
use Rattle.conservation.specs.declared.Call.{Call}
use Rattle.conservation.specs.Conserved.{sum_over, waits_in, emissions}
use Rattle.conservation.specs.Runs.{run_of}
use Rattle.conservation.specs.Tally.{Tally}

-- how many elements the tally has, how many of them wait, and the emissions that demand 3 counts
abbrev pub class_total_in : Tally → StatementReply
class_total_in t =
    record {
      refusal = 0;
      elements = sum_over t.elements (λ e. 1);
      waiting = sum_over t.elements (λ e. one_if (waits_in t e));
      operation = emissions t operation;
      provision = emissions t provision;
      total = emissions t operation + emissions t provision;
    }

-- demand 3 of the class total: "For every list of opens, posts, strikes, enrolments, quotes and closings from a fresh book, refused
-- ones included, this holds after it."
abbrev pub TotalConservation : Type 0
TotalConservation =
    (words : List ℕ) → book_length ≤ length words → (calls : List Call)
    → class_total (run_of words calls).book ≡ class_total_in (run_of words calls).tally
