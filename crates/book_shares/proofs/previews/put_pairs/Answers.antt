use mathlib.Core.List.{List, ◌++◌}
use mathlib.Core.Path.{◌≡◌, ap, ◌∙◌, sym}
use Prim.Native.Nat.{ℕ, ◌≤◌}
use native.Mathlib.Nat.{le_refl}
use native.Mathlib.Omega.{arith}
use lib.ListN.{length, length-append, take, drop, replicate}
use lib.Seq.{length-take-le}
use borrow.Author.Tests.{le-ltb}
use Rattle.std.proofs.lemmas.Slice.{drop-append-drop}
use Rattle.book_words.specs.Book.{elements, most_elements}
use Rattle.book_words.proofs.SoundTests.{sound-counted}
use Rattle.book_shares.specs.Previews.{pair_words, pairs_of, held_by, pairs_below}
use Rattle.book_shares.proofs.Pairs.{held_before, held_more, pairs-cong, pairs-length, pairs-zeros}
use Rattle.book_shares.proofs.previews.put_pairs.Goals as goal

-- the words of the pairs are filled with 0: those of no element, and the rest is kept
module _ (ws old new : List ℕ) (long : pair_words ≤ length old) (filled : new ≡ replicate (length (take pair_words old)) 0) where
  zeros : new ≡ pairs_below most_elements (held_before ws 0)
  zeros =
      filled
      ∙ ap (λ (n : ℕ). replicate n 0) (length-take-le pair_words old long)
      ∙ sym (pairs-zeros most_elements)
      ∙ pairs-cong most_elements (λ p s. 0) (held_before ws 0) (λ p h s. sym (rw (le-ltb p 0 (omega arith))))

  behind : drop pair_words (new ++ drop pair_words old) ≡ drop pair_words old
  behind =
      drop-append-drop pair_words old new pair_words (le_refl pair_words)
      (ap length zeros ∙ pairs-length most_elements (held_before ws 0))

pub loop-place-init : goal.loop-place-init
loop-place-init c =
    let filled = c.fill.ensures.after (λ y e. e) in
    let old = c.args.pairs.now in
    let ws = c.args.book.now in
    ap (λ (l : List ℕ). l ++ drop pair_words old) (zeros ws old c.fill.new.self c.requires filled)
    ∙ ap (λ (l : List ℕ). pairs_below most_elements (held_before ws 0) ++ l) (sym (behind ws old c.fill.new.self c.requires filled))

pub overflow_mul-place : goal.overflow_mul-place
overflow_mul-place c = omega (arith, sound-counted c.args.book.now c.record_at-e.ensures.book, c.loop-place.auto)

pub put_two-requires : goal.put_two-requires
put_two-requires c =
    omega (
      arith,
      ap length c.loop-place.invariant,
      length-append (pairs_below most_elements (held_before c.args.book.now c.loop-place.place)) (drop pair_words (c.fill.new.self ++ drop pair_words c.args.pairs.now)),
      pairs-length most_elements (held_before c.args.book.now c.loop-place.place),
      sound-counted c.args.book.now c.record_at-e.ensures.book,
      c.loop-place-test.true,
      c.count-count.ensures.value,
    )

pub loop-place-preserved : goal.loop-place-preserved
loop-place-preserved c =
    let few = sound-counted c.args.book.now c.record_at-e.ensures.book in
    let rest = drop pair_words (c.fill.new.self ++ drop pair_words c.args.pairs.now) in
    rw (c.loop-place.invariant, c.record_at-e.ensures.value) at c.put_two.ensures
    ∙ held_more c.args.book.now most_elements c.loop-place.place rest (omega (arith, few, c.loop-place-test.true, c.count-count.ensures.value))

pub returns : goal.returns
unfolding pairs_of
returns c =
    let ws = c.args.book.now in
    let end : c.loop-place.place ≡ elements ws = omega (arith, c.loop-place-test.false, c.loop-place.auto, c.count-count.ensures.value) in
    let filled = c.fill.ensures.after (λ y e. e) in
    c.loop-place.invariant
    ∙ ap (λ (n : ℕ). pairs_below most_elements (held_before ws n) ++ drop pair_words (c.fill.new.self ++ drop pair_words c.args.pairs.now)) end
    ∙ ap (λ (l : List ℕ). pairs_below most_elements (held_by ws) ++ l) (behind ws c.args.pairs.now c.fill.new.self c.requires filled)
