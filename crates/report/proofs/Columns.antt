-- The class total is the sum of each column over the printed lines. Assumes nothing.
use Prim.Native.Nat.{ℕ, ◌+◌, ◌<◌}
use native.Mathlib.Omega.{arith}
use mathlib.Core.Bool.{Bool, true, false, cond, ◌&&◌}
use mathlib.Core.List.{List, [], ◌∷◌}
use mathlib.Core.Path.{◌≡◌, refl, sym, ◌∙◌, ap}
use borrow.Author.Tests.{le-leb}
use lib.Dec.{leb}
use Rattle.std.proofs.lemmas.Bool.{and_from}
use Rattle.apportion.specs.Places.{sum_below, one_if}
use Rattle.apportion.proofs.Sums.{sum-cong, sum-add}
use Rattle.book.specs.ClassTotal.{over_elements, class_total}
use Rattle.book.specs.Statements.{of_chain, waits, elements_over, waiting_over, shares_over, statement_of, zeros_beside}
use Rattle.book.specs.Statements.{StatementReply}
use Rattle.book.proofs.Laws.{statement-accepted, statement-unused}
use Rattle.book_words.specs.Book.{elements, element_at}
use Rattle.book_words.specs.Measures.{most_chains}
use Rattle.book_words.specs.Soundness.{sound}
use Rattle.book_words.specs.declared.records.Element.{Element}
use Rattle.book_words.proofs.ShareSums.{sum-by-chain}
use Rattle.report.specs.Sheet.{is_used, statement_numbers, column_sum, column_sums}
use Rattle.report.proofs.MetChains.{unused-none}

-- a count, a count of what passes another test too, and two sums, as sums of what passes the test
one_of : (own : Bool) → one_if own ≡ cond own 1 0
one_of true = refl
one_of false = refl

one-of-both : (own t : Bool) → one_if (own && t) ≡ cond own (one_if t) 0
one-of-both true t = refl
one-of-both false t = refl

sum-of-both : (own : Bool) (a b : ℕ) → cond own a 0 + cond own b 0 ≡ cond own (a + b) 0
sum-of-both true a b = refl
sum-of-both false a b = refl

-- five numbers, each equal to its own
five : {a b c d e a' b' c' d' e' : ℕ} → a ≡ a' → b ≡ b' → c ≡ c' → d ≡ d' → e ≡ e'
    → a ∷ b ∷ c ∷ d ∷ e ∷ [] ≡ a' ∷ b' ∷ c' ∷ d' ∷ e' ∷ []
five p q r s t = λ i. p i ∷ q i ∷ r i ∷ s i ∷ t i ∷ []

-- the sum of a number of each element over the elements of a chain
abbrev sum_on : List ℕ → ℕ → (Element → ℕ) → ℕ
sum_on ws chain number = sum_below (elements ws) (λ p. cond (of_chain chain (element_at ws p)) (number (element_at ws p)) 0)

module _ (ws : List ℕ) (chain : ℕ) where
  -- each number of a statement is such a sum
  elements-on : (statement_of ws chain).elements ≡ sum_on ws chain (λ e. 1)
  unfolding statement_of elements_over
  elements-on =
      sum-cong (elements ws)
      (λ p. one_if (of_chain chain (element_at ws p)))
      (λ p. cond (of_chain chain (element_at ws p)) 1 0)
      (λ p h. one_of (of_chain chain (element_at ws p)))

  waiting-on : (statement_of ws chain).waiting ≡ sum_on ws chain (λ e. one_if (waits ws e))
  unfolding statement_of waiting_over
  waiting-on =
      sum-cong (elements ws)
      (λ p. one_if (of_chain chain (element_at ws p) && waits ws (element_at ws p)))
      (λ p. cond (of_chain chain (element_at ws p)) (one_if (waits ws (element_at ws p))) 0)
      (λ p h. one-of-both (of_chain chain (element_at ws p)) (waits ws (element_at ws p)))

  operation-on : (statement_of ws chain).operation ≡ sum_on ws chain (λ e. e.operation)
  unfolding statement_of shares_over
  operation-on = refl

  provision-on : (statement_of ws chain).provision ≡ sum_on ws chain (λ e. e.provision)
  unfolding statement_of shares_over
  provision-on = refl

  total-on : (statement_of ws chain).total ≡ sum_on ws chain (λ e. e.operation + e.provision)
  unfolding statement_of shares_over
  total-on =
      let own : ℕ → (Element → ℕ) → ℕ = λ p number. cond (of_chain chain (element_at ws p)) (number (element_at ws p)) 0 in
      sym (sum-add (elements ws) (λ p. own p (λ e. e.operation)) (λ p. own p (λ e. e.provision)))
      ∙ sum-cong (elements ws)
      (λ p. own p (λ e. e.operation) + own p (λ e. e.provision))
      (λ p. own p (λ e. e.operation + e.provision))
      (λ p h. sum-of-both (of_chain chain (element_at ws p)) (element_at ws p).operation (element_at ws p).provision)

module _ (ws : List ℕ) (fine : sound ws ≡ true) where
  -- a column of the statements of all chains, by what it adds of each element, is the sum over all elements
  over-chains : (column : StatementReply → ℕ) (number : Element → ℕ) → ((chain : ℕ) → column (statement_of ws chain) ≡ sum_on ws chain number)
      → sum_below most_chains (λ j. column (statement_of ws (j + 1))) ≡ over_elements ws number
  over-chains column number is =
      sum-cong most_chains (λ j. column (statement_of ws (j + 1))) (λ j. sum_on ws (j + 1) number) (λ j h. is (j + 1))
      ∙ sum-by-chain ws fine number

  -- so the elements of all chains are all elements
  pub elements-by-chain : sum_below most_chains (λ j. elements_over ws (of_chain (j + 1))) ≡ over_elements ws (λ e. 1)
  unfolding statement_of
  elements-by-chain = over-chains (λ s. s.elements) (λ e. 1) (elements-on ws)

  -- an unused chain has zeros in its statement
  unused-zeros : (j : ℕ) → j < most_chains → is_used ws (j + 1) ≡ false → statement_of ws (j + 1) ≡ zeros_beside 0
  unused-zeros j h unused =
      let known = and_from (leb 1 (j + 1)) (leb (j + 1) most_chains) (le-leb 1 (j + 1) (omega arith)) (le-leb (j + 1) most_chains (omega arith)) in
      sym (statement-accepted ws (j + 1) fine known) ∙ statement-unused ws (j + 1) fine known (unused-none ws (j + 1) unused)

  -- so a column over the used chains is that over all chains, and the sum over all elements
  column-total : (column : StatementReply → ℕ) (number : Element → ℕ) → column (zeros_beside 0) ≡ 0
      → ((chain : ℕ) → column (statement_of ws chain) ≡ sum_on ws chain number) → over_elements ws number ≡ column_sum ws column
  column-total column number none is =
      sym
      (sum-cong most_chains
      (λ j. cond (is_used ws (j + 1)) (column (statement_of ws (j + 1))) 0)
      (λ j. column (statement_of ws (j + 1)))
      (λ j h. go j h (is_used ws (j + 1)) refl)
      ∙ over-chains column number is)
    where
      go : (j : ℕ) → j < most_chains → (t : Bool) → is_used ws (j + 1) ≡ t → cond t (column (statement_of ws (j + 1))) 0 ≡ column (statement_of ws (j + 1))
      go j h true used = refl
      go j h false unused = sym (ap column (unused-zeros j h unused) ∙ none)

  -- the five sums are those of the printed lines
  pub class-total-of-lines : statement_numbers (class_total ws) ≡ column_sums ws
  unfolding class_total
  class-total-of-lines =
      five
      (column-total (λ s. s.elements) (λ e. 1) refl (elements-on ws))
      (column-total (λ s. s.waiting) (λ e. one_if (waits ws e)) refl (waiting-on ws))
      (column-total (λ s. s.operation) (λ e. e.operation) refl (operation-on ws))
      (column-total (λ s. s.provision) (λ e. e.provision) refl (provision-on ws))
      (column-total (λ s. s.total) (λ e. e.operation + e.provision) refl (total-on ws))
