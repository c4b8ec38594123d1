use mathlib.Core.Path.{◌≡◌, ap, ◌∙◌}
use Prim.Native.Nat.{ℕ, ◌+◌, ◌<◌}
use Rattle.book_words.specs.Book.{element_at}
use Rattle.book_words.specs.Inner.Steps.{capped}
use Rattle.book_shares.specs.Inner.Members.{sum_at}
use Rattle.book_words.proofs.SumLoop.{Adding, adding-next, adding-done}
use Rattle.book_words.proofs.CappedSums.{capped-more}
use Rattle.book_shares.proofs.weights.Members.sum.Goals as goal

-- the sum with one number more, which is capped
more : {n k sum next x : ℕ} {f : ℕ → ℕ} → Adding n k sum f → k < n → x ≡ capped (f k) → next ≡ capped (sum + x) → Adding n (k + 1) next f
more {k = k} {sum} {next} {f = f} a h adds is =
    adding-next next a h (is ∙ ap (λ (n : ℕ). capped (sum + n)) adds ∙ capped-more sum (f k))

pub loop-place-preserved : goal.loop-place-preserved
loop-place-preserved g c =
    λ measure is.
    let element = c.record_at.ensures.value ∙ ap (element_at c.args.self.book.now) c.from.ensures in
    more (c.loop-place.invariant measure is) c.loop-place-test.true (is _ _ c.added.ensures ∙ ap (λ e. capped (measure e)) element) c.add-sum.ensures

pub returns : goal.returns
unfolding sum_at
returns g c =
    λ measure is. adding-done (c.loop-place.invariant measure is) c.loop-place-test.false
