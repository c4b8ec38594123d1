use mathlib.Core.Path.{◌≡◌, ◌∙◌, ap, sym}
use Prim.Native.Nat.{ℕ}
use native.Mathlib.Omega.{arith}
use lib.ListN.{length}
use Rattle.book_words.specs.Book.{element_at}
use Rattle.apportion.specs.Places.{at, list_below}
use Rattle.book_shares.specs.Inner.Members.{activity_in, by_number, weights_at}
use Rattle.book_shares.proofs.FilledFront.{filling-next, filling-all, zeros-at}
use Rattle.apportion.proofs.Lists.{list_at, list-past}
use Rattle.book_shares.proofs.MemberSums.{listed_few}
use Rattle.book_shares.proofs.weights.Members.weights.Goals as goal

pub loop-index-preserved : goal.loop-index-preserved
loop-index-preserved c =
    let few = listed_few c.args.self.book.now c.args.self.category c.args.self.places.now c.args.self.fine c.args.self.are in
    filling-next c.loop-index.invariant _ (omega (arith, few, c.loop-index-test.true))
    (c.weight_of.ensures ∙ ap (activity_in (by_number c.args.recipients)) (c.record_at-e.ensures.value ∙ ap (element_at c.args.self.book.now) c.from.ensures))

pub returns : goal.returns
unfolding weights_at
returns c =
    let n = length c.args.self.places.now in
    let end : c.loop-index.index ≡ n = omega arith in
    let f : ℕ → ℕ = λ i. activity_in (by_number c.args.recipients) (element_at c.args.self.book.now (at c.args.self.places.now i)) in
    filling-all c.loop-index.invariant (at (list_below n f))
    (λ j h. sym (list_at n f j (omega (arith, end, h))))
    (λ j h. zeros-at 256 j ∙ sym (list-past n f j (omega (arith, end, h))))
