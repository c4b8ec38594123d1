-- What the walk of a statement, or of the class total, holds after the first k elements. Assumes nothing.
use mathlib.Core.Bool.{true, false, cond, ◌&&◌, Bool}
use mathlib.Core.List.{List}
use mathlib.Core.Logic.{◌⊎◌, ⊎_elim}
use mathlib.Core.Path.{◌≡◌, refl, ◌∙◌, ap, sym, fun_ext}
use Prim.Native.Nat.{ℕ, zero, suc, ◌≤◌, ◌<◌, ◌+◌}
use native.Mathlib.Nat.{add-zero}
use native.Mathlib.Numerals.{add-one}
use native.Mathlib.Omega.{arith}
use lib.Dec.{eqb, leb}
use borrow.Author.Tests.{eq-eqb, ne_eqb, le-leb, lt-leb}
use Rattle.std.proofs.lemmas.Bool.{and_from}
use Rattle.apportion.specs.Places.{one_if, sum_below}
use Rattle.book_words.specs.Book.{elements, most_elements, element_at}
use Rattle.book_words.specs.Measures.{between, most_chains}
use Rattle.book_words.specs.Soundness.{sound}
use Rattle.book_words.specs.declared.totals.Side.{Side}
use Rattle.book_words.specs.declared.totals.Side.TheVariants.{Operation as operation, Provision as provision}
use Rattle.book_words.specs.Totals.{most_emissions, share_of}
use Rattle.book.specs.Statements.{StatementReply}
use Rattle.book.specs.ClassTotal.{class_total}
use Rattle.book.specs.Inner.Chains.{of_chains}
use Rattle.book.specs.declared.walks.Held.{Held}
use Rattle.book.specs.Walk.{HeldFits, held_after, held_with, walk_over, with_total}
use Rattle.book.specs.Statements.{elements_over, waiting_over, shares_over, statement_over, waits, of_chain, statement_of}
use Rattle.book_words.specs.declared.records.Element.{Element}
use Rattle.apportion.proofs.Sums.{order, sum-next, sum-le, sum-cong, sum-add, sum_more, count_most}
use Rattle.book_words.proofs.Booleans.{cond-most}
use Rattle.book_words.proofs.ShareSums.{chain-inside, shares-limited}
use Rattle.book_words.proofs.SoundTests.{sound-counted}

-- the numbers of a statement within the limits of a book
pub record StatementWithin (s : StatementReply) : Type 0 where
  pub elements_most : s.elements ≤ most_elements
  pub waiting_most : s.waiting ≤ most_elements
  pub operation_most : s.operation ≤ most_emissions
  pub provision_most : s.provision ≤ most_emissions
  pub total_most : s.total ≤ most_emissions + most_emissions

module _ (ws : List ℕ) (test : Element → Bool) where
  -- the share of the element at a place, where it passes the test
  abbrev own_share : Side → ℕ → ℕ
  own_share side p = cond (test (element_at ws p)) (share_of side (element_at ws p)) 0

  -- one element more
  pub held_next : (k : ℕ) → held_after ws test (k + 1) ≡ held_with ws test (held_after ws test k) (element_at ws k)
  unfolding held_after
  held_next k =
      rw (
        sum-next k (λ p. one_if (test (element_at ws p))),
        sum-next k (λ p. one_if (test (element_at ws p) && waits ws (element_at ws p))),
        sum-next k (own_share operation),
        sum-next k (own_share provision),
      )
      (go (test (element_at ws k)) (held_after ws test k))
    where
      go : (own : Bool) (held : Held) → ◌≡◌ {A = Held}
          (record {
            elements = held.elements + one_if own;
            waiting = held.waiting + one_if (own && waits ws (element_at ws k));
            operation = held.operation + cond own (element_at ws k).operation 0;
            provision = held.provision + cond own (element_at ws k).provision 0;
          })
          (cond own
          (record {
            elements = held.elements + 1;
            waiting = held.waiting + one_if (waits ws (element_at ws k));
            operation = held.operation + (element_at ws k).operation;
            provision = held.provision + (element_at ws k).provision;
          })
          held)
      go true held = refl
      go false held = rw (add-zero held.elements, add-zero held.waiting, add-zero held.operation, add-zero held.provision)

  -- by the element that was read: it passes the test, or it does not
  module _ (k : ℕ) {held : Held} {e : Element} (before : held ≡ held_after ws test k) (is : e ≡ element_at ws k) where
    with_read : held_with ws test held e ≡ held_after ws test (k + 1)
    with_read = rw (before, is) (sym (held_next k))

    pub held-own : test e ≡ true → {one : ℕ} → one ≡ one_if (waits ws e)
        → ◌≡◌ {A = Held}
        (record {
          elements = held.elements + 1;
          waiting = held.waiting + one;
          operation = held.operation + e.operation;
          provision = held.provision + e.provision;
        })
        (held_after ws test (k + 1))
    held-own own waited = rw waited (rw own at with_read)

    pub held-other : test e ≡ false → held ≡ held_after ws test (k + 1)
    held-other other = rw other at with_read

  -- so the walk holds that after every element
  pub walk-holds : (k : ℕ) → walk_over ws test k ≡ held_after ws test k
  unfolding held_after
  walk-holds zero = refl
  walk-holds (suc k) = ap (λ (held : Held). held_with ws test held (element_at ws k)) (walk-holds k) ∙ sym (held_next k) ∙ rw add-one

  -- the counts are at most the number of elements passed
  held-counts : (k : ℕ) → ((held_after ws test k).elements ≤ k) × ((held_after ws test k).waiting ≤ k)
  unfolding held_after
  held-counts k = (
    count_most k (λ p. test (element_at ws p)),
    count_most k (λ p. test (element_at ws p) && waits ws (element_at ws p)),
  )

  -- the shares that are added are within 10^18
  shares-most : sound ws ≡ true → (k : ℕ) → k ≤ elements ws → (side : Side) → sum_below k (own_share side) ≤ most_emissions
  shares-most fine k h side =
      omega (
        arith,
        sum-le k (own_share side) (λ p. share_of side (element_at ws p))
            (λ p i. cond-most (test (element_at ws p)) (share_of side (element_at ws p))),
        sum_more k (elements ws) (λ p. share_of side (element_at ws p)) h,
        shares-limited ws fine side,
      )

  held-most : sound ws ≡ true → (k : ℕ) → k ≤ elements ws
      → ((held_after ws test k).operation ≤ most_emissions) × ((held_after ws test k).provision ≤ most_emissions)
  unfolding held_after
  held-most fine k h = (shares-most fine k h operation, shares-most fine k h provision)

  -- so all that the walk holds is within the limits of a book
  pub held_fits : sound ws ≡ true → (k : ℕ) → k ≤ elements ws → {held : Held} → held ≡ held_after ws test k
      → (held.elements ≤ most_elements) × (held.waiting ≤ most_elements) × (held.operation ≤ most_emissions) × (held.provision ≤ most_emissions)
  held_fits fine k h is =
      let few = sound-counted ws fine in
      let counts = held-counts k in
      let shares = held-most fine k h in
      rw is (omega (arith, few, counts), omega (arith, few, counts), shares.0, shares.1)

  -- and the total of its sums in 64 bits
  pub held-fit : sound ws ≡ true → (k : ℕ) → k ≤ elements ws → {held : Held} → held ≡ held_after ws test k → HeldFits held
  held-fit fine k h is =
      let fits = held_fits fine k h is in
      record { operation_most = fits.2; provision_most = fits.3 }

  -- after all elements it is the statement over those that pass
  held_all : with_total (held_after ws test (elements ws)) ≡ statement_over ws test
  unfolding held_after elements_over waiting_over shares_over
  held_all = refl

  -- so that statement is within the limits of a book
  over-within : sound ws ≡ true → StatementWithin (statement_over ws test)
  over-within fine =
      let fits = held_fits fine (elements ws) (omega arith) refl in
      rw (← held_all)
      (record {
        elements_most = fits.0;
        waiting_most = fits.1;
        operation_most = fits.2;
        provision_most = fits.3;
        total_most = omega (arith, fits);
      })

-- the elements of the chains from a chain to itself are the chain's
from_itself : (chain n : ℕ) → between chain chain n ≡ eqb n chain
from_itself chain n =
    ⊎_elim
    (λ (l : n < chain). rw (lt-leb chain n l, ne_eqb n chain (omega arith)))
    (λ (m : (n ≡ chain) ⊎ (chain < n)).
    ⊎_elim
    (λ (e : n ≡ chain). rw (le-leb chain n (omega arith), le-leb n chain (omega arith), eq-eqb n chain e))
    (λ (g : chain < n). rw (le-leb chain n (omega arith), lt-leb n chain g, ne_eqb n chain (omega arith)))
    m)
    (order n chain)

pub chain-alone : (chain : ℕ) → of_chains chain chain ≡ of_chain chain
chain-alone chain = fun_ext (λ e. from_itself chain e.chain)

-- what the walk of a chain then holds, with the total, is its statement
pub held-statement : (ws : List ℕ) (chain : ℕ) → with_total (held_after ws (of_chain chain) (elements ws)) ≡ statement_of ws chain
unfolding statement_of
held-statement ws chain = held_all ws (of_chain chain)

-- and the statement over the chains from 1 to 10,000 is the class total
over-all : (ws : List ℕ) → sound ws ≡ true → statement_over ws (of_chains 1 most_chains) ≡ class_total ws
unfolding class_total elements_over waiting_over shares_over
over-all ws fine =
    rw (
      sum-cong n (λ p. one_if (own p)) (λ p. 1) (λ p h. rw (all p h)),
      sum-cong n (λ p. one_if (own p && waits ws (element_at ws p))) (λ p. one_if (waits ws (element_at ws p))) (λ p h. rw (all p h)),
      shares operation,
      shares provision,
      sum-add n (λ p. (element_at ws p).operation) (λ p. (element_at ws p).provision),
    )
  where
    n : ℕ
    n = elements ws

    own : ℕ → Bool
    own p = of_chains 1 most_chains (element_at ws p)

    all : (p : ℕ) → p < elements ws → own p ≡ true
    all p h =
        let inside = chain-inside ws fine p h in
        and_from (leb 1 (element_at ws p).chain) (leb (element_at ws p).chain most_chains) (le-leb _ _ inside.0) (le-leb _ _ inside.1)

    shares : (side : Side) → shares_over ws (of_chains 1 most_chains) side ≡ sum_below n (λ p. share_of side (element_at ws p))
    shares side = sum-cong n (λ p. cond (own p) (share_of side (element_at ws p)) 0) (λ p. share_of side (element_at ws p)) (λ p h. rw (all p h))

pub held-total : (ws : List ℕ) → sound ws ≡ true → with_total (held_after ws (of_chains 1 most_chains) (elements ws)) ≡ class_total ws
held-total ws fine = held_all ws (of_chains 1 most_chains) ∙ over-all ws fine

-- so both are within the limits of a book, and fit in 64 bits
pub statement-within : (ws : List ℕ) (chain : ℕ) → sound ws ≡ true → StatementWithin (statement_of ws chain)
unfolding statement_of
statement-within ws chain fine = over-within ws (of_chain chain) fine

pub class-total-within : (ws : List ℕ) → sound ws ≡ true → StatementWithin (class_total ws)
class-total-within ws fine = rw (← over-all ws fine) (over-within ws (of_chains 1 most_chains) fine)
