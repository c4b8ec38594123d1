-- Shares written at the places of a category's elements are those written over all places. Assumes nothing.
use mathlib.Core.Bool.{Bool, true, false}
use mathlib.Core.List.{List}
use mathlib.Core.Path.{◌≡◌, refl, sym, ap, ◌∙◌}
use Prim.Native.Nat.{ℕ, zero, suc, ◌+◌, ◌*◌, ◌≤◌, ◌<◌}
use native.Mathlib.Nat.{add-zero, le_refl}
use native.Mathlib.Numerals.{add-one}
use native.Mathlib.Omega.{arith}
use lib.Dec.{eqb}
use lib.ListN.{length, set, length-set}
use Rattle.apportion.specs.Places.{at, count_below}
use Rattle.book_words.specs.Book.{element_list, element_start, operation_share_word, provision_share_word, elements, put_shares}
use Rattle.book_words.specs.declared.totals.Side.{Side}
use Rattle.book_words.specs.declared.totals.Side.TheVariants.{Operation as operation, Provision as provision}
use Rattle.book_words.specs.declared.records.Element.{Element}
use Rattle.book_shares.specs.Closing.{hand_out}
use Rattle.book_shares.specs.Inner.Steps.{hand_out_to, put_two}
use Rattle.book_shares.specs.Inner.Members.{is_member, members}
use Rattle.book_shares.proofs.CloseWrites.{handed-later}
use Rattle.book_shares.proofs.MemberSums.{members-length, member-at}

put-two-length : (words : List ℕ) (start a b : ℕ) → length (put_two words start a b) ≡ length words
put-two-length words start a b = length-set (set words start a) (start + 1) b ∙ length-set words start a

-- shares that are written at places, from a word on and so far apart
module _ (first width : ℕ) (places words : List ℕ) where
  pub handed-to-length : (share : Side → ℕ → ℕ) (n : ℕ) → length (hand_out_to first width places n words share) ≡ length words
  handed-to-length share zero = refl
  handed-to-length share (suc n) =
      put-two-length (hand_out_to first width places n words share) (first + width * at places n) (share operation n) (share provision n)
      ∙ handed-to-length share n

  -- only the first n shares are looked at
  handed-cong : (n : ℕ) (f g : Side → ℕ → ℕ) → ((s : Side) (k : ℕ) → k < n → f s k ≡ g s k)
      → hand_out_to first width places n words f ≡ hand_out_to first width places n words g
  handed-cong zero f g same = refl
  handed-cong (suc n) f g same =
      rw (
        handed-cong n f g (λ s k h. same s k (omega arith)),
        same operation n (omega arith),
        same provision n (omega arith),
      )

-- The loop that writes them: the elements at the first k places have their shares.
pub record Handing (first width : ℕ) (places words : List ℕ) (share : Side → ℕ → ℕ) (k : ℕ) (new : List ℕ) : Type 0 where
  pub inside : k ≤ length places
  pub so_far : new ≡ hand_out_to first width places k words share

module _ {first width : ℕ} {places words new : List ℕ} {share : Side → ℕ → ℕ} {k : ℕ} (h : Handing first width places words share k new) where
  pub handing-next : (next : List ℕ) → k < length places
      → next ≡ put_two new (first + width * at places k) (share operation k) (share provision k)
      → Handing first width places words share (k + 1) next
  handing-next next i e = record { inside = omega arith; so_far = e ∙ rw h.so_far (ap (λ (n : ℕ). hand_out_to first width places n words share) (sym (add-one k))) }

  pub handing-done : length places ≤ k → new ≡ hand_out_to first width places (length places) words share
  handing-done i =
      let end : k ≡ length places = omega (arith, h.inside) in
      h.so_far ∙ ap (λ (n : ℕ). hand_out_to first width places n words share) end

-- in the book: the first share word of the first element, and the shares handed out from it on
abbrev pub first_share : ℕ
first_share = element_list.first + operation_share_word

abbrev pub handed_in : List ℕ → ℕ → List ℕ → (Side → ℕ → ℕ) → List ℕ
handed_in places n ws share = hand_out_to first_share element_list.width places n ws share

-- the two words are an element's shares
pub shares-put : (ws : List ℕ) (place a b : ℕ) → put_shares ws place a b ≡ put_two ws (first_share + element_list.width * place) a b
shares-put ws place a b =
    let first : element_start place + operation_share_word ≡ first_share + element_list.width * place = omega arith in
    let second : element_start place + provision_share_word ≡ first_share + element_list.width * place + 1 = omega arith in
    rw (first, second)

-- up to a place, what is written is what is written at the places of the elements before it
module _ (ws : List ℕ) (category : ℕ) (share : Side → ℕ → ℕ) where
  -- the share of the element at each of these places
  abbrev listed_share : Side → ℕ → ℕ
  listed_share s i = share s (at (members ws category) i)

  handed-upto : (n : ℕ) → n ≤ elements ws
      → hand_out n ws category share ≡ handed_in (members ws category) (count_below n (is_member ws category)) ws listed_share
  handed-upto zero h = refl
  handed-upto (suc n) h =
      go (is_member ws category n) refl (handed-upto n (omega arith))
      (ap (λ (r : Element). eqb r.category category) (handed-later ws category share n n (omega arith)))
    where
      go : (t : Bool) → is_member ws category n ≡ t
          → hand_out n ws category share ≡ handed_in (members ws category) (count_below n (is_member ws category)) ws listed_share
          → is_member (hand_out n ws category share) category n ≡ is_member ws category n
          → hand_out (suc n) ws category share ≡ handed_in (members ws category) (count_below (suc n) (is_member ws category)) ws listed_share
      go true e rest same =
          rw (same ∙ e, e, add-one, member-at ws category n h e, rest)
          (shares-put (handed_in (members ws category) (count_below n (is_member ws category)) ws listed_share) n (share operation n) (share provision n))
      go false e rest same = rw (same ∙ e, e, add-zero) rest

-- the shares of both sides, as the code writes them
pub sides-written : (ws : List ℕ) (category : ℕ) (share given : Side → ℕ → ℕ) (places new : List ℕ) → places ≡ members ws category
    → ((side : Side) (k : ℕ) → k < length places → given side k ≡ share side (at places k))
    → new ≡ handed_in places (length places) ws given
    → new ≡ hand_out (elements ws) ws category share
sides-written ws category share given places new are same is =
    is
    ∙ handed-cong first_share element_list.width places ws (length places) given (λ s i. share s (at places i)) same
    ∙ rw (are, members-length ws category) (sym (handed-upto ws category share (elements ws) (le_refl (elements ws))))
