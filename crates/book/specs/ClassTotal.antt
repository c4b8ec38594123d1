-- The class total: "five sums: elements, waiting, operation, provision, total. They must equal the sums over the book's element
-- records." Assumes nothing.
use Rattle.std.specs.Prelude.{List, ℕ, ◌+◌}
use Rattle.apportion.specs.Places.{sum_below, one_if}
use Rattle.book_words.specs.Book.{elements, element_at}
use Rattle.book_words.specs.declared.records.Element.{Element}
use Rattle.book.specs.Statements.{StatementReply}
use Rattle.book.specs.Statements.{waits}

-- the sum of a number of each record over "the book's element records"
abbrev pub over_elements : List ℕ → (Element → ℕ) → ℕ
over_elements ws number = sum_below (elements ws) (λ p. number (element_at ws p))

-- the five sums, under the names that a statement has for them; an element waits as in a statement
unfoldable pub class_total : List ℕ → StatementReply
class_total ws =
    record {
      refusal = 0;
      elements = over_elements ws (λ e. 1);
      waiting = over_elements ws (λ e. one_if (waits ws e));
      operation = over_elements ws (λ e. e.operation);
      provision = over_elements ws (λ e. e.provision);
      total = over_elements ws (λ e. e.operation + e.provision);
    }
