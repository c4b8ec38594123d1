-- A closing that is worked out beside the book, and what is then written in the book or in pairs. Assumes nothing.
use mathlib.Core.Bool.{true}
use mathlib.Core.List.{List, ◌++◌}
use mathlib.Core.Path.{◌≡◌, refl, sym, ap, ◌∙◌}
use Prim.Native.Nat.{ℕ, ◌+◌, ◌*◌, ◌≤◌, ◌<◌}
use native.Mathlib.Nat.{le_refl}
use native.Mathlib.Omega.{arith}
use lib.ListN.{length, drop, replicate}
use borrow.Author.Tests.{lt-ltb}
use Rattle.apportion.specs.Places.{at}
use Rattle.book_words.specs.Book.{categories, element_list, elements, close_category}
use Rattle.book_words.specs.Inner.Steps.{CountsWithin}
use Rattle.book_words.specs.Soundness.{sound}
use Rattle.book_words.specs.declared.totals.Side.{Side}
use Rattle.book_words.specs.declared.totals.Side.TheVariants.{Operation as operation, Provision as provision}
use Rattle.book_shares.specs.Closing.{close_refusal, close_book, close_with, hand_out}
use Rattle.book_shares.specs.Inner.Members.{members}
use Rattle.book_shares.specs.declared.sharing.Shares.{Shares}
use Rattle.book_shares.specs.Inner.Steps.{WorkedOut, hand_out_to, share_at}
use Rattle.book_shares.specs.Previews.{pair_words, pairs_of, pairs_written}
use Rattle.book_shares.specs.Shares.{closing_share}
use Rattle.apportion.proofs.Grounds.{accepted-new}
use Rattle.book_words.proofs.Ranges.{between-high}
use Rattle.book_words.proofs.SoundTests.{sound-counted}
use Rattle.book_shares.proofs.BookPairs.{pairs-handed, pairs-closed}
use Rattle.book_shares.proofs.CloseAccepted.{accepted-closing}
use Rattle.book_shares.proofs.FilledFront.{zeros-at}
use Rattle.book_shares.proofs.MemberSums.{listed_inside}
use Rattle.book_shares.proofs.ShareWrites.{first_share, handed_in, sides-written}

-- no share is there yet
pub nothing-shared : (side : Side) (k : ℕ) → share_at (record { operation = replicate 256 0; provision = replicate 256 0 }) side k ≡ 0
nothing-shared operation k = zeros-at 256 k
nothing-shared provision k = zeros-at 256 k

-- the shares are worked out
module _ (ws : List ℕ) (category : ℕ) (places : List ℕ) (shares : Shares) (fine : sound ws ≡ true) (are : places ≡ members ws category)
    (none : close_refusal ws category ≡ 0) (done : WorkedOut ws category places shares) where
  abbrev share : Side → ℕ → ℕ
  share = closing_share ws category

  listed : (side : Side) (k : ℕ) → k < length places → share_at shares side k ≡ share side (at places k)
  listed side k h = done side k ∙ rw (lt-ltb k (length places) h)

  counts : CountsWithin ws
  counts = sound-counted ws fine

  place_inside : (k : ℕ) → k < length places → at places k < elements ws
  place_inside = listed_inside ws category places fine are

  -- the words of each place are in the book, and in the pairs
  pub in-book : (k : ℕ) → k < length places → first_share + element_list.width * at places k + 1 < length ws
  in-book k h = omega (arith, place_inside k h, counts)

  pub in_pairs : (pairs : List ℕ) → pair_words ≤ length pairs → (k : ℕ) → k < length places → 0 + 2 * at places k + 1 < length pairs
  in_pairs pairs long k h = omega (arith, place_inside k h, counts)

  handed-all : {new : List ℕ} → new ≡ handed_in places (length places) ws (share_at shares) → new ≡ hand_out (elements ws) ws category share
  handed-all = sides-written ws category share (share_at shares) places _ are listed

  -- the book is the closed one
  pub book-written : {handed new : List ℕ} → handed ≡ handed_in places (length places) ws (share_at shares) → new ≡ close_category handed category
      → new ≡ close_book ws category
  unfolding close_book close_with
  book-written is-handed is =
      is ∙ ap (λ (l : List ℕ). close_category l category) (handed-all is-handed) ∙ sym (accepted-new _ _ ws none)

  -- the pairs are those of the closed book
  pub pairs-written : (pairs : List ℕ) {shown new : List ℕ} → shown ≡ pairs_written ws pairs
      → new ≡ hand_out_to 0 2 places (length places) shown (share_at shares)
      → new ≡ pairs_written (close_book ws category) pairs
  unfolding close_book close_with
  pairs-written pairs is-shown is =
      let rest = drop pair_words pairs in
      let most = between-high 1 (categories ws) category (accepted-closing ws category none).numbered in
      is
      ∙ ap (λ (l : List ℕ). hand_out_to 0 2 places (length places) l (share_at shares)) is-shown
      ∙ pairs-handed ws places (share_at shares) counts.long counts.elements_most place_inside (length places) (le_refl (length places)) rest
      ∙ ap (λ (l : List ℕ). l ++ rest)
      (ap pairs_of (handed-all refl)
      ∙ sym (pairs-closed (hand_out (elements ws) ws category share) category (omega (arith, most, counts)))
      ∙ ap pairs_of (sym (accepted-new _ _ ws none)))
