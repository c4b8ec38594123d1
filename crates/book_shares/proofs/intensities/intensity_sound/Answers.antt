-- `book_shares::intensities::intensity_sound` meets its contract: a ground before 9 refuses, then ground 9, then 10 by the two results,
-- which within 10^15 are not capped. Assumes nothing.
use mathlib.Core.Bool.{Bool, true, false, ◌||◌, cond}
use mathlib.Core.List.{List}
use Prim.Native.Nat.{ℕ}
use mathlib.Core.Path.{refl, sym, ◌∙◌, ◌≡◌}
use native.Mathlib.Omega.{arith}
use lib.Dec.{ltb}
use Rattle.apportion.specs.Grounds.{first_of}
use Rattle.apportion.specs.Inner.Grounds.{grounds_before}
use Rattle.book_words.specs.Inner.Steps.{capped}
use Rattle.book_words.specs.declared.totals.Side.TheVariants.{Operation as operation, Provision as provision}
use Rattle.book_shares.specs.declared.weights.Recipients.{Recipients}
use Rattle.book_shares.specs.Inner.Members.{members, activity_at}
use Rattle.book_shares.specs.Inner.Steps.{Allowed, code_of}
use Rattle.book_shares.specs.Intensities.{intensity_grounds, intensity_of, intensity_refusal, intensity_reply, lacks_activity, most_result}
use Rattle.book_shares.specs.Sums.{activity_among}
use Rattle.std.proofs.lemmas.Result.{err_from_is_err_and}
use Rattle.apportion.proofs.Grounds.{decided-before, or-none}
use Rattle.apportion.proofs.Refusals.{number-some}
use Rattle.book_shares.proofs.IntensityResults.{Early, early, nine, ten, reply-refused, reply-accepted, uncapped}
use Rattle.book_shares.proofs.intensities.intensity_sound.Goals as goal

-- no ground before 9 holds, and ground 9 is tested over the elements that are listed
module _ (ws : List ℕ) (category : ℕ) (r : Recipients) {listed places : List ℕ} {lacks : Bool}
    (none : 0 ≡ first_of (grounds_before 9 (intensity_grounds ws category (code_of r)))) (are : listed ≡ members ws category) (lent : places ≡ listed)
    (tested : lacks ≡ lacks_activity (activity_at ws places) (code_of r)) where
  before_9 : Early ws category (code_of r)
  before_9 = early ws category (code_of r) (sym none)

  nine_is : lacks_activity (activity_among ws category) (code_of r) ≡ lacks
  nine_is = sym (nine ws category (code_of r) places (lent ∙ are)) ∙ sym tested

  lacking : lacks ≡ true → record { refusal = 9; operation = 0; provision = 0 } ≡ intensity_reply ws category (code_of r)
  lacking is = reply-refused ws category (code_of r) 9 (sym (before_9.late ∙ rw (nine_is ∙ is))) (λ z. omega arith)

  ready : lacks ≡ false → Allowed ws category r
  ready is = record { numbered = before_9.numbered; some_activity = nine_is ∙ is }

  -- the two results
  module _ {a b : ℕ} (is : lacks ≡ false) (is-a : a ≡ capped (intensity_of ws category (code_of r) operation))
      (is_b : b ≡ capped (intensity_of ws category (code_of r) provision)) where
    number_is : (t : Bool) → ltb most_result a || ltb most_result b ≡ t → intensity_refusal ws category (code_of r) ≡ cond t 10 0
    number_is t over = before_9.late ∙ rw (nine_is ∙ is, ten ws category (code_of r) _ _ is-a is_b ∙ over)

    too_large : ltb most_result a || ltb most_result b ≡ true
        → record { refusal = 10; operation = 0; provision = 0 } ≡ intensity_reply ws category (code_of r)
    too_large over = reply-refused ws category (code_of r) 10 (sym (number_is true over)) (λ z. omega arith)

    results : ltb most_result a || ltb most_result b ≡ false → record { refusal = 0; operation = a; provision = b } ≡ intensity_reply ws category (code_of r)
    results over =
        let within = or-none (ltb most_result a) (ltb most_result b) over in
        reply-accepted ws category (code_of r) _ _ (number_is false over)
        (uncapped ws category (code_of r) operation _ within.0 is-a)
        (uncapped ws category (code_of r) provision _ within.1 is_b)

pub returns-in_err-recipients : goal.returns-in_err-recipients
unfolding intensity_refusal
returns-in_err-recipients c =
    let handed = err_from_is_err_and c.from_residual.result c.from_residual.ensures.1 in
    let some = number-some c.in_err-recipients.field-0.0 in
    let grounds = intensity_grounds c.args.book.now c.args.category c.args.code in
    rw (handed.1, handed.2) (reply-refused c.args.book.now c.args.category c.args.code _ (decided-before 9 grounds refl c.in_err-recipients.ensures.value some) some)

pub returns-then-lacks_activity : goal.returns-then-lacks_activity
returns-then-lacks_activity c =
    let asked = c.in_ok-recipients.ensures.recipients c.in_ok-recipients.recipients refl in
    rw asked (lacking c.args.book.now c.args.category _ (rw asked at c.in_ok-recipients.ensures.value) c.list_members-places.ensures.places c.as_slice.ensures.value
    c.lacks_activity.ensures c.if-lacks_activity.true)

pub result-operation-requires : goal.result-operation-requires
result-operation-requires c =
    let asked = c.in_ok-recipients.ensures.recipients c.in_ok-recipients.recipients refl in
    ready c.args.book.now c.args.category _ (rw asked at c.in_ok-recipients.ensures.value) c.list_members-places.ensures.places c.as_slice.ensures.value
    c.lacks_activity.ensures c.if-lacks_activity.false

pub result-provision-requires : goal.result-provision-requires
result-provision-requires c =
    let asked = c.in_ok-recipients.ensures.recipients c.in_ok-recipients.recipients refl in
    ready c.args.book.now c.args.category _ (rw asked at c.in_ok-recipients.ensures.value) c.list_members-places.ensures.places c.as_slice.ensures.value
    c.lacks_activity.ensures c.if-lacks_activity.false

pub returns-then-operation-provision : goal.returns-then-operation-provision
returns-then-operation-provision c =
    let asked = c.in_ok-recipients.ensures.recipients c.in_ok-recipients.recipients refl in
    rw asked (too_large c.args.book.now c.args.category _ (rw asked at c.in_ok-recipients.ensures.value) c.list_members-places.ensures.places c.as_slice.ensures.value
    c.lacks_activity.ensures c.if-lacks_activity.false c.result-operation.ensures c.result-provision.ensures c.if-operation-provision.true)

pub returns : goal.returns
returns c =
    let asked = c.in_ok-recipients.ensures.recipients c.in_ok-recipients.recipients refl in
    rw asked (results c.args.book.now c.args.category _ (rw asked at c.in_ok-recipients.ensures.value) c.list_members-places.ensures.places c.as_slice.ensures.value
    c.lacks_activity.ensures c.if-lacks_activity.false c.result-operation.ensures c.result-provision.ensures c.if-operation-provision.false)
