-- What holds where a call is accepted: the condition of none of its grounds. Each is named by the ground's number. Assumes nothing.
use mathlib.Core.Bool.{true, false, ◌&&◌}
use mathlib.Core.List.{List}
use mathlib.Core.Path.{◌≡◌, refl}
use Prim.Native.Nat.{ℕ}
use lib.Dec.{eqb}
use borrow.Author.Tests.{eqb-true, not-false}
use Rattle.std.proofs.lemmas.Bool.{and_parts}
use Rattle.apportion.specs.Grounds.{Ground}
use Rattle.book_words.specs.Book.{category_of, is_closed}
use Rattle.book_words.specs.Measures.{is_amount, is_distance_in, is_kg_per_head}
use Rattle.book_words.specs.declared.records.Category.{Category}
use Rattle.book.specs.declared.arguments.EnrolArguments.{EnrolArguments}
use Rattle.book.specs.declared.arguments.PostArguments.{PostArguments}
use Rattle.book.specs.declared.arguments.QuoteArguments.{QuoteArguments}
use Rattle.book.specs.Calls.{open_refusal, open_grounds, post_refusal, post_grounds, strike_refusal, strike_grounds}
use Rattle.book.specs.Calls.{enrol_in_range, enrol_refusal, enrol_grounds, quote_refusal, quote_grounds}
use Rattle.apportion.proofs.Grounds.{condition_of, none-holds}

-- a category that is not closed
pub unclosed-zero : (ws : List ℕ) (category : ℕ) → is_closed ws category ≡ false → (category_of ws category).closed ≡ 0
unclosed-zero ws category e = eqb-true (category_of ws category).closed 0 (not-false (eqb (category_of ws category).closed 0) e)

-- the measures of an enrolment, each in its range
pub record EnrolMeasures (here : Category) (a : EnrolArguments) : Type 0 where
  pub amount : is_amount a.code a.amount ≡ true
  pub distance : is_distance_in here.kind a.distance ≡ true
  pub mass : is_kg_per_head a.code a.kg_per_head ≡ true

pub enrol-measured : (here : Category) (a : EnrolArguments) → enrol_in_range here a ≡ true → EnrolMeasures here a
enrol-measured here a e =
    let amount = is_amount a.code a.amount in
    let distance = is_distance_in here.kind a.distance in
    let all = and_parts (amount && distance) (is_kg_per_head a.code a.kg_per_head) e in
    let two = and_parts amount distance all.0 in
    record { amount = two.0; distance = two.1; mass = all.1 }

-- no condition of these grounds holds
abbrev pub Passed : List Ground → Type 0
Passed grounds = (number : ℕ) → condition_of number grounds ≡ false

module _ (ws : List ℕ) where
  pub opened : (kind : ℕ) → open_refusal ws kind ≡ 0 → Passed (open_grounds ws kind)
  unfolding open_refusal
  opened kind e = none-holds (open_grounds ws kind) refl e

  pub posted : (p : PostArguments) → post_refusal ws p ≡ 0 → Passed (post_grounds ws p)
  unfolding post_refusal
  posted p e = none-holds (post_grounds ws p) refl e

  pub struck : (entry : ℕ) → strike_refusal ws entry ≡ 0 → Passed (strike_grounds ws entry)
  unfolding strike_refusal
  struck entry e = none-holds (strike_grounds ws entry) refl e

  pub enrolled : (a : EnrolArguments) → enrol_refusal ws a ≡ 0 → Passed (enrol_grounds ws a)
  unfolding enrol_refusal
  enrolled a e = none-holds (enrol_grounds ws a) refl e

  pub quoted : (q : QuoteArguments) → quote_refusal ws q ≡ 0 → Passed (quote_grounds ws q)
  unfolding quote_refusal
  quoted q e = none-holds (quote_grounds ws q) refl e
