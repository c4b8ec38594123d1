use mathlib.Core.Bool.{true}
use mathlib.Core.List.{List}
use mathlib.Core.Path.{◌≡◌, sym, ap, ◌∙◌}
use Prim.Native.Nat.{ℕ, ◌≤◌, ◌<◌}
use native.Mathlib.Omega.{arith}
use Rattle.book_words.specs.Book.{elements, element_at, most_categories}
use Rattle.book_words.specs.Inner.Steps.{CountsWithin}
use Rattle.book_words.specs.declared.records.Element.{Element}
use Rattle.book_words.specs.Soundness.{element_fine, elements_fine, passengers_fine}
use Rattle.book_words.proofs.EveryPlace.{every-at}
use Rattle.book_words.proofs.PassengerWalk.{remembered-start, remembered-freight, remembered-mixed, remembered-passenger}
use Rattle.book_words.proofs.RecordRules.{element-category}
use Rattle.book_words.proofs.mixture.passengers_fine.Goals as goal
use Rattle.book_words.proofs.mixture.passengers_fine.Goals.{then-is_passenger+else-eq, else-is_passenger}

-- the category of the next element is one of the book's
category_most : (ws : List ℕ) (next : ℕ) {r : Element} → CountsWithin ws → elements_fine ws ≡ true → next < elements ws → r ≡ element_at ws next
    → r.category ≤ most_categories
unfolding elements_fine
category_most ws next few fine less is =
    let one = every-at (elements ws) (λ p. element_fine ws (element_at ws p)) fine next less in
    omega (arith, ap (λ (x : Element). x.category) is, element-category ws _ one, few)

pub loop-place-init : goal.loop-place-init
loop-place-init c = remembered-start _

pub offset_bounds-seen-r : goal.offset_bounds-seen-r
offset_bounds-seen-r c =
    omega (arith, category_most c.args.words.now c.loop-place.place c.record_at-r.ensures.book c.requires (omega arith) c.record_at-r.ensures.value)

pub bounds-seen-r : goal.bounds-seen-r
bounds-seen-r c =
    omega (arith, category_most c.args.words.now c.loop-place.place c.record_at-r.ensures.book c.requires (omega arith) c.record_at-r.ensures.value)

pub returns-then-eq : goal.returns-then-eq
returns-then-eq c =
    let within = category_most c.args.words.now c.loop-place.place c.record_at-r.ensures.book c.requires (omega arith) c.record_at-r.ensures.value in
    remembered-mixed _ c.loop-place.invariant c.record_at-r.ensures.value (sym c.is_passenger.ensures ∙ c.if-is_passenger.true) within
    c.is_weighed-weighed.ensures (omega arith) (rw c.replace-known.ensures.value at (sym c.eq.ensures ∙ c.if-eq.true))

pub loop-place-preserved : goal.loop-place-preserved
loop-place-preserved c =
    let within = category_most c.args.words.now c.loop-place.place c.record_at-r.ensures.book c.requires (omega arith) c.record_at-r.ensures.value in
    elim c.if-is_passenger.branch [
      | then-is_passenger+else-eq w ↦
          rw (w.seen-is, w.replace-known.ensures.after)
          (remembered-passenger _ c.loop-place.invariant c.record_at-r.ensures.value (sym c.is_passenger.ensures ∙ w.if-is_passenger.true) within
          w.is_weighed-weighed.ensures (rw w.replace-known.ensures.value at (sym w.eq.ensures ∙ w.if-eq.false)))
      | else-is_passenger w ↦
          rw w.seen-is (remembered-freight _ c.loop-place.invariant c.record_at-r.ensures.value (sym c.is_passenger.ensures ∙ w.if-is_passenger.false))
    ]

pub returns : goal.returns
unfolding passengers_fine
returns c =
    let end : c.loop-place.place ≡ elements c.args.words.now = omega arith in
    sym (rw end at c.loop-place.invariant.unmixed)
