-- The pairs of a book: shares that are written in the book are written in its pairs, and the pairs of a closed book. Assumes nothing.
use mathlib.Core.Bool.{true}
use mathlib.Core.List.{List, ◌++◌}
use mathlib.Core.Path.{◌≡◌, refl, sym, ap, ◌∙◌}
use Prim.Native.Nat.{ℕ, zero, suc, ◌+◌, ◌*◌, ◌-◌, ◌≤◌, ◌<◌}
use native.Mathlib.Omega.{arith}
use lib.ListN.{length}
use lib.Seq.{get_or-set_other}
use borrow.Author.Tests.{lt-ltb}
use Rattle.apportion.specs.Places.{at}
use Rattle.book_words.specs.Book.{book_length, element_list, elements, element_at, element_start, most_elements, most_categories, category_start, closed_word, close_category, put_shares}
use Rattle.book_words.specs.Totals.{share_of}
use Rattle.book_words.specs.declared.totals.Side.{Side}
use Rattle.book_words.specs.declared.totals.Side.TheVariants.{Operation as operation, Provision as provision}
use Rattle.book_words.specs.declared.records.Element.{Element}
use Rattle.book_shares.specs.Inner.Steps.{hand_out_to, put_two}
use Rattle.book_shares.specs.Previews.{held_by, pairs_of}
use Rattle.book_words.proofs.RecordsAfterWrite.{element-same}
use Rattle.book_shares.proofs.CloseWrites.{chosen-word, chosen-element, chosen-here}
use Rattle.book_shares.proofs.Pairs.{pair_put, pairs-cong}
use Rattle.book_shares.proofs.ShareWrites.{first_share, handed_in, handed-to-length, shares-put}

-- an element holds the same in another book
held_same : (ws ws' : List ℕ) (p : ℕ) → elements ws ≡ elements ws' → element_at ws p ≡ element_at ws' p → (s : Side) → held_by ws p s ≡ held_by ws' p s
held_same ws ws' p count same s = rw (count, ap (share_of s) same)

-- one element's shares are written
module _ (ws : List ℕ) (p a b : ℕ) (long : book_length ≤ length ws) (few : elements ws ≤ most_elements) (here : p < elements ws) where
  abbrev after : List ℕ
  after = put_shares ws p a b

  count_kept : elements after ≡ elements ws
  count_kept = chosen-word ws p a b true element_list.counter (λ e. (λ z. omega arith, λ z. omega arith))

  held-here : (s : Side) → held_by after p s ≡ share_of s (element_at after p)
  held-here s = rw (count_kept, lt-ltb p (elements ws) here)

  pair-written : (rest : List ℕ) → put_two (pairs_of ws ++ rest) (2 * p) a b ≡ pairs_of after ++ rest
  unfolding pairs_of
  pair-written rest =
      let shares = chosen-here ws p a b long (omega arith) in
      let by-operation : held_by after p operation ≡ a = held-here operation ∙ ap (λ (r : Element). r.operation) shares in
      let by-provision : held_by after p provision ≡ b = held-here provision ∙ ap (λ (r : Element). r.provision) shares in
      rw (by-operation, by-provision)
      at (pair_put most_elements p (held_by ws) (held_by after) rest (omega arith)
      (λ q other s. held_same ws after q (sym count_kept) (sym (chosen-element ws p a b true q (λ e. other))) s))

-- so are those of elements at places, one after the other
module _ (ws places : List ℕ) (share : Side → ℕ → ℕ) (long : book_length ≤ length ws) (few : elements ws ≤ most_elements)
    (there : (i : ℕ) → i < length places → at places i < elements ws) where
  abbrev handed : ℕ → List ℕ
  handed n = handed_in places n ws share

  counts-kept : (n : ℕ) → elements (handed n) ≡ elements ws
  counts-kept zero = refl
  counts-kept (suc n) =
      ap elements (sym (shares-put (handed n) (at places n) (share operation n) (share provision n)))
      ∙ chosen-word (handed n) (at places n) (share operation n) (share provision n) true element_list.counter (λ e. (λ z. omega arith, λ z. omega arith))
      ∙ counts-kept n

  pub pairs-handed : (n : ℕ) → n ≤ length places → (rest : List ℕ) → hand_out_to 0 2 places n (pairs_of ws ++ rest) share ≡ pairs_of (handed n) ++ rest
  pairs-handed zero h rest = refl
  pairs-handed (suc n) h rest =
      let p = at places n in
      let a = share operation n in
      let b = share provision n in
      let start : 0 + 2 * p ≡ 2 * p = omega arith in
      rw start
      (ap (λ (l : List ℕ). put_two l (2 * p) a b) (pairs-handed n (omega arith) rest)
      ∙ pair-written (handed n) p a b
      (omega (arith, handed-to-length first_share element_list.width places ws share n))
      (omega (arith, counts-kept n))
      (omega (arith, counts-kept n, there n (omega arith)))
      rest
      ∙ ap (λ (l : List ℕ). pairs_of l ++ rest) (shares-put (handed n) p a b))

-- a category's closed word is none of the elements'
pub pairs-closed : (ws : List ℕ) (category : ℕ) → category ≤ most_categories → pairs_of (close_category ws category) ≡ pairs_of ws
unfolding pairs_of
pairs-closed ws category most =
    let after = close_category ws category in
    let closed = category_start (category - 1) + closed_word in
    let word : (k : ℕ) → (k ≡ closed → ⊥) → at after k ≡ at ws k = λ k ne. get_or-set_other ws closed k 1 0 ne in
    pairs-cong most_elements (held_by after) (held_by ws)
    (λ p h s.
    held_same after ws p (word element_list.counter (λ z. omega arith))
    (element-same ws after p (λ f t. word (element_start p + f) (λ z. omega arith))) s)
