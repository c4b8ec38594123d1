-- `book::walks::walk_on` meets its contract: the element that was read is the next, and what it adds fits. Assumes nothing.
use mathlib.Core.Path.{◌≡◌, ◌∙◌, refl, ap, sym}
use Prim.Native.Nat.{ℕ, ◌+◌, ◌≤◌}
use native.Mathlib.Omega.{arith}
use Rattle.apportion.specs.Places.{one_if}
use Rattle.book_words.specs.Book.{most_elements}
use Rattle.book_words.specs.Totals.{most_emissions}
use Rattle.book_words.specs.declared.records.Element.{Element}
use Rattle.book.specs.Inner.Chains.{of_chains}
use Rattle.book.specs.Statements.{waits}
use Rattle.book.specs.Walk.{held_after}
use Rattle.book.specs.declared.walks.Held.{Held}
use Rattle.book_words.proofs.ShareSums.{category-inside}
use Rattle.book.proofs.StatementWalk.{held-other, held-own, held_fits}
use Rattle.book.proofs.walks.walk_on.Goals as goal
use Rattle.book.proofs.walks.walk_on.Goals.{Else-not-of_chains}

-- what the walk holds after an element of these chains, by what it waits
added : (c : Else-not-of_chains) {one : ℕ} → one ≡ one_if (waits c.args.book.now c.record_at-e.result)
    → ◌≡◌ {A = Held}
    (record {
      elements = c.args.held.elements + 1;
      waiting = c.args.held.waiting + one;
      operation = c.args.held.operation + c.record_at-e.result.operation;
      provision = c.args.held.provision + c.record_at-e.result.provision;
    })
    (held_after c.args.book.now (of_chains c.args.first c.args.last) (c.args.passed + 1))
added c waited =
    held-own _ _ _ c.requires.held_value c.record_at-e.ensures.value (sym c.of_chains.ensures ∙ c.if-not-of_chains.false) waited

-- so its counts are within 256, and its sums within 10^18
fits : (c : Else-not-of_chains) {one : ℕ} → one ≡ one_if (waits c.args.book.now c.record_at-e.result)
    → (c.args.held.elements + 1 ≤ most_elements)
    × (c.args.held.waiting + one ≤ most_elements)
    × (c.args.held.operation + c.record_at-e.result.operation ≤ most_emissions)
    × (c.args.held.provision + c.record_at-e.result.provision ≤ most_emissions)
fits c waited =
    let less = c.requires.passed_bound in
    held_fits _ _ c.record_at-e.ensures.book (c.args.passed + 1) (omega arith) (added c waited)

pub returns-then-not-of_chains : goal.returns-then-not-of_chains
returns-then-not-of_chains c =
    held-other _ _ _ c.requires.held_value c.record_at-e.ensures.value (sym c.of_chains.ensures ∙ c.if-not-of_chains.true)

pub overflow_add-result : goal.overflow_add-result
overflow_add-result c = omega (arith, fits (goal.at.overflow_add-result c).Else-not-of_chains refl)

pub waiting_of-requires : goal.waiting_of-requires
waiting_of-requires c =
    let inside = category-inside c.args.book.now c.record_at-e.ensures.book c.args.passed c.requires.passed_bound in
    omega (arith, ap (λ (r : Element). r.category) c.record_at-e.ensures.value, inside)

pub overflow_add-result-2 : goal.overflow_add-result-2
overflow_add-result-2 c = omega (arith, fits (goal.at.overflow_add-result-2 c).Else-not-of_chains c.waiting_of.ensures)

pub overflow_add-result-3 : goal.overflow_add-result-3
overflow_add-result-3 c = omega (arith, fits (goal.at.overflow_add-result-3 c).Else-not-of_chains refl)

pub overflow_add-result-4 : goal.overflow_add-result-4
overflow_add-result-4 c = omega (arith, fits (goal.at.overflow_add-result-4 c).Else-not-of_chains refl)

pub returns : goal.returns
returns c = added (goal.at.returns c).Else-not-of_chains c.waiting_of.ensures
