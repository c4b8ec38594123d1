-- `book_shares::previews::preview_sound` meets its contract: ground 17, and else, where no ground holds, the shares that are worked out
-- are written over the pairs of the book. Assumes nothing.
use mathlib.Core.Bool.{true}
use mathlib.Core.List.{List}
use mathlib.Core.Path.{◌≡◌, sym, ◌∙◌}
use Prim.Native.Nat.{ℕ, ◌≤◌, ◌<◌}
use native.Mathlib.Omega.{arith}
use lib.ListN.{length}
use Rattle.book_words.specs.Soundness.{sound}
use Rattle.book_shares.specs.Closing.{close_refusal}
use Rattle.book_shares.specs.Previews.{pair_words, preview_refusal, preview_pairs}
use Rattle.apportion.proofs.Grounds.{accepted-new}
use Rattle.apportion.proofs.Refusals.{handed-on, number-some}
use Rattle.book_shares.proofs.Laws.{preview-as-close, preview-refused, preview-short}
use Rattle.book_shares.proofs.WorkedOut.{in_pairs, nothing-shared, pairs-written}
use Rattle.book_shares.proofs.previews.preview_sound.Goals as goal

-- a preview into a slice that is long enough is refused as the closing is
number_is : (ws pairs : List ℕ) (category : ℕ) {n : ℕ} → pair_words ≤ length pairs → n ≡ close_refusal ws category → n ≡ preview_refusal ws pairs category
number_is ws pairs category long is = is ∙ sym (preview-as-close ws pairs category long)

-- one into a shorter slice is refused with 17
seventeen : (ws pairs : List ℕ) (category : ℕ) → length pairs < pair_words → sound ws ≡ true → 17 ≡ preview_refusal ws pairs category
seventeen ws pairs category short fine = sym (preview-short ws pairs category short ∙ rw fine)

pub returns-then-short-clause-value : goal.returns-then-short-clause-value
returns-then-short-clause-value c = seventeen c.args.book.now c.args.pairs.now c.args.category c.if-short.true c.count-count.ensures.book

pub returns-then-short-clause-pairs_after : goal.returns-then-short-clause-pairs_after
returns-then-short-clause-pairs_after c =
    let is = seventeen c.args.book.now c.args.pairs.now c.args.category c.if-short.true c.count-count.ensures.book in
    sym (preview-refused c.args.book.now c.args.pairs.now c.args.category (λ z. omega (arith, is)))

pub returns-in_err-work_out-clause-value : goal.returns-in_err-work_out-clause-value
returns-in_err-work_out-clause-value c =
    handed-on _ c.from_residual.result c.from_residual.ensures.1
    ∙ number_is c.args.book.now c.args.pairs.now c.args.category (omega (arith, c.if-short.false)) c.in_err-work_out.ensures.value

pub returns-in_err-work_out-clause-pairs_after : goal.returns-in_err-work_out-clause-pairs_after
returns-in_err-work_out-clause-pairs_after c =
    let number = number_is c.args.book.now c.args.pairs.now c.args.category (omega (arith, c.if-short.false)) c.in_err-work_out.ensures.value in
    sym (preview-refused c.args.book.now c.args.pairs.now c.args.category (λ z. number-some c.in_err-work_out.field-0.0 (number ∙ z)))

pub hand_out_to-requires-clause-by_index : goal.hand_out_to-requires-clause-by_index
hand_out_to-requires-clause-by_index c =
    in_pairs c.args.book.now c.args.category c.as_slice-places.result.now c.work_out.new.shares c.list_members-listed.ensures.book
    (c.as_slice-places.ensures.value ∙ c.list_members-listed.ensures.places) (sym c.in_ok-work_out.ensures.value) (c.in_ok-work_out.ensures.worked_out (sym c.in_ok-work_out.ensures.value))
    c.put_pairs.new.pairs (omega (arith, c.if-short.false, c.put_pairs.auto.pairs))

pub returns-clause-value : goal.returns-clause-value
returns-clause-value c =
    let number = number_is c.args.book.now c.args.pairs.now c.args.category (omega (arith, c.if-short.false)) c.in_ok-work_out.ensures.value in
    omega (arith, number)

pub returns-clause-pairs_after : goal.returns-clause-pairs_after
unfolding preview_pairs
returns-clause-pairs_after c =
    let number = number_is c.args.book.now c.args.pairs.now c.args.category (omega (arith, c.if-short.false)) c.in_ok-work_out.ensures.value in
    let accepted : preview_refusal c.args.book.now c.args.pairs.now c.args.category ≡ 0 = omega (arith, number) in
    pairs-written c.args.book.now c.args.category c.as_slice-places.result.now c.work_out.new.shares c.list_members-listed.ensures.book
    (c.as_slice-places.ensures.value ∙ c.list_members-listed.ensures.places) (sym c.in_ok-work_out.ensures.value) (c.in_ok-work_out.ensures.worked_out (sym c.in_ok-work_out.ensures.value))
    c.args.pairs.now c.put_pairs.ensures c.hand_out_to.ensures
    ∙ sym (accepted-new _ _ c.args.pairs.now accepted)

pub work_out-requires : goal.work_out-requires
work_out-requires c = nothing-shared
