-- The chains that the first k elements have met. Assumes nothing.
use Prim.Native.Nat.{ℕ, ◌<◌}
use native.Mathlib.Omega.{arith}
use mathlib.Core.Bool.{true, false, true≢false}
use mathlib.Core.List.{List}
use mathlib.Core.Path.{◌≡◌, refl, sym, ◌∙◌, ap}
use borrow.Author.Tests.{lt-ltb, eq-eqb}
use Rattle.apportion.specs.Places.{one_if}
use Rattle.apportion.proofs.Sums.{sum-some}
use Rattle.book.specs.Statements.{of_chain, elements_over}
use Rattle.book.specs.Walk.{held_after}
use Rattle.book_words.specs.Book.{elements, element_at}
use Rattle.report.specs.Inner.Table.{is_met}
use Rattle.report.specs.Sheet.{is_used}

-- the chain of the element at a place
abbrev pub chain_at : List ℕ → ℕ → ℕ
chain_at ws place = (element_at ws place).chain

module _ (ws : List ℕ) where
  -- a chain is met after each of its elements
  pub met-since : (p q : ℕ) → p < q → is_met ws q (chain_at ws p) ≡ true
  unfolding held_after
  met-since p q h =
      lt-ltb 0 (held_after ws (of_chain (chain_at ws p)) q).elements
      (omega (
        arith,
        sum-some q (λ j. one_if (of_chain (chain_at ws p) (element_at ws j))) p h,
        ap one_if (eq-eqb (chain_at ws p) (chain_at ws p) refl),
      ))

  -- after all elements the used chains are met
  pub met-used : (chain : ℕ) → is_met ws (elements ws) chain ≡ is_used ws chain
  unfolding held_after is_used elements_over
  met-used chain = refl

  -- so no element is on an unused chain
  pub unused-none : (chain : ℕ) → is_used ws chain ≡ false → (p : ℕ) → p < elements ws → (element_at ws p).chain ≡ chain → ⊥
  unused-none chain unused p h on =
      true≢false (sym (met-since p (elements ws) h) ∙ ap (is_met ws (elements ws)) on ∙ met-used chain ∙ unused)
