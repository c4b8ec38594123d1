use mathlib.Core.Bool.{Bool, true, not, beq}
use mathlib.Core.Path.{◌≡◌, sym, ap, ap₂, ◌∙◌}
use native.Mathlib.Omega.{arith}
use Rattle.book_words.specs.Book.{elements}
use Rattle.std.proofs.lemmas.Grind.{common_steps}
use Rattle.book_words.specs.Mixture.{is_passenger_in}
use Rattle.book_words.specs.Measures.{is_weighed, is_passenger}
use Rattle.book_words.specs.declared.records.Element.{Element}
use Rattle.book_words.proofs.Passengers.{none-mixes, one-mixes}
use Rattle.book_words.proofs.sound_words.SoundWords.mixes.Goals as goal

pub returns-then-r-category : goal.returns-then-r-category
returns-then-r-category c =
    let ws = c.args.self.now in
    let known : is_passenger c.args.code ≡ true = grind (arith, common_steps) in
    let here : is_passenger_in c.args.category c.record_at-r.result ≡ true = grind (arith, common_steps) in
    ap₂ (λ (a b : Bool). not (beq a b))
    (c.is_weighed.ensures ∙ ap (λ (x : Element). is_weighed x.kg_per_head) c.record_at-r.ensures.value)
    c.is_weighed-then-r-category.ensures
    ∙ one-mixes ws c.record_at-r.ensures.book c.args.category c.loop-place.place (omega arith) (ap (is_passenger_in c.args.category) (sym c.record_at-r.ensures.value) ∙ here)
    c.args.code c.args.kg_per_head known

pub returns : goal.returns
returns c =
    let ws = c.args.self.now in
    let end : c.loop-place.place ≡ elements ws = omega arith in
    sym (none-mixes ws c.args.category (elements ws) c.args.code c.args.kg_per_head (rw end at c.loop-place.invariant))
