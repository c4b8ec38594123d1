use mathlib.Core.Bool.{not}
use mathlib.Core.Path.{◌≡◌, sym, ap, ◌∙◌}
use native.Mathlib.Omega.{arith}
use Prim.Native.Nat.{◌<◌}
use lib.ListN.{get_or}
use borrow.Author.Tests.{not-true}
use Rattle.book_words.specs.declared.soundness.TheConstants.{LISTS}
use Rattle.book_words.specs.declared.soundness.List.TheVariants.{Categories}
use Rattle.book_words.specs.Inner.Steps.{count_in, list_fine}
use Rattle.book_words.proofs.EveryPlace.{every-next, every-not}
use Rattle.book_words.proofs.SoundTests.{turn_fine, tested-sound, untested-sound, ready}
use Rattle.book_words.proofs.soundness.is_sound.Goals as goal

pub record_fine-requires-clause-ready : goal.record_fine-requires-clause-ready
record_fine-requires-clause-ready c = ready _ c.lists.list-index c.lists.invariant.1

pub lists-preserved : goal.lists-preserved
unfolding list_fine
lists-preserved c =
    let end : c.loop-place.place ≡ c.count_in-count.result = omega arith in
    (c.loop-place.invariant.0, every-next c.lists.list-index _ c.lists.invariant.1 (rw (end, c.count_in-count.ensures) at c.loop-place.invariant.1))

pub returns-after-lists : goal.returns-after-lists
returns-after-lists c =
    let end : c.lists.list-index ≡ 6 = omega arith in
    c.lists.invariant.0 ∙ sym (rw end at c.lists.invariant.1) ∙ tested-sound _ (sym c.tested.ensures ∙ c.in-Some.is)

pub returns-then-not-record_fine : goal.returns-then-not-record_fine
unfolding list_fine
returns-then-not-record_fine c =
    let bad = sym c.record_fine.ensures ∙ not-true c.record_fine.result (ap not c.if-not-record_fine.true) in
    let here : c.loop-place.place < count_in c.in-Some.words (get_or LISTS c.lists.list-index Categories) = omega arith in
    let none = every-not _ _ c.loop-place.place here bad in
    sym (every-not 6 (turn_fine c.in-Some.words) c.lists.list-index c.lists-test.true none) ∙ tested-sound _ (sym c.tested.ensures ∙ c.in-Some.is)

pub returns-in_default : goal.returns-in_default
returns-in_default c = untested-sound _ (sym c.tested.ensures ∙ c.in_default.is)
