use mathlib.Core.Path.{◌≡◌, ap, ◌∙◌}
use native.Mathlib.Omega.{arith}
use lib.ListN.{length}
use Rattle.book_words.specs.Book.{elements}
use Rattle.book_shares.specs.Inner.Members.{is_member, members}
use Rattle.apportion.proofs.PlacesLeftOut.{kept-length}
use Rattle.apportion.proofs.Sums.{count_most}
use Rattle.book_words.proofs.SoundTests.{sound-counted}
use Rattle.book_shares.proofs.listing.list_members.Invariants.{listed_to}
use Rattle.book_shares.proofs.listing.list_members.Goals as goal

pub overflow_cast-place : goal.overflow_cast-place
overflow_cast-place c =
    omega (arith, sound-counted c.args.book.now c.record_at.ensures.book, c.loop-place-test.true)

pub push-requires : goal.push-requires
push-requires c =
    let test = is_member c.args.book.now c.args.category in
    omega (
      arith,
      ap length c.loop-place.invariant,
      kept-length test c.loop-place.place (λ p. p),
      count_most c.loop-place.place test,
      sound-counted c.args.book.now c.record_at.ensures.book,
      c.loop-place-test.true,
    )

pub returns : goal.returns
unfolding members
returns c =
    let end : c.loop-place.place ≡ elements c.args.book.now = omega arith in
    record { places = c.loop-place.invariant ∙ ap (listed_to c.args.book.now c.args.category) end; book = c.count-count.ensures.book }
