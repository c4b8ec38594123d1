-- What the tests of a call say as the grounds of its definition. Assumes nothing.
use lib.Dec.{eqb}
use mathlib.Core.Bool.{true, not, ◌||◌}
use mathlib.Core.List.{List, [], ◌∷◌}
use mathlib.Core.Path.{◌≡◌, sym, ◌∙◌, refl, ap}
use Prim.Native.Nat.{ℕ, zero, suc, ◌-◌, ◌<◌}
use native.Mathlib.Omega.{arith}
use Rattle.std.proofs.Common.{Result, Ok, Err, Some}
use Rattle.std.specs.Result.{IsErrAnd}
use Rattle.apportion.specs.Grounds.{accepted, first_of}
use Rattle.apportion.specs.Refusals.{number_of}
use Rattle.apportion.specs.declared.refusing.Refusal.{Refusal}
use Rattle.book_words.specs.Book.{entries, entry_at, entry_of, categories, category_at, category_of, has_closed}
use Rattle.book_words.specs.Measures.{between}
use Rattle.book_words.specs.Inner.Steps.{numbered}
use Rattle.book_words.specs.Soundness.{sound, entries_fine, entry_fine}
use Rattle.book_words.specs.declared.records.Category.{Category}
use Rattle.book_words.specs.declared.records.Entry.{Entry}
use Rattle.book.specs.Calls.{strike_refusal}
use Rattle.book.specs.Replies.{refusal_alone, reply_of, reply_in}
use Rattle.apportion.proofs.Refusals.{number-some}
use Rattle.book_words.proofs.EveryPlace.{every-at}
use Rattle.book_words.proofs.SoundTests.{sound-parts}
use Rattle.book_words.proofs.NumberedRecords.{numbered-some, numbered-there}
use Rattle.book_words.proofs.Ranges.{between-low, between-high}
use Rattle.book_words.proofs.RecordRules.{entry-inside}

-- the reply of an answer that a refusal is handed on in
pub reply-handed : (r : Refusal) (answer : Result ℕ Refusal) → IsErrAnd answer (λ e. e ≡ r) → reply_in answer ≡ refusal_alone (number_of r)
reply-handed r (Ok n) h = absurd h
reply-handed r (Err e) h = rw h

-- the reply of a refused call and its book
pub call-refused : (number : ℕ) (new : List ℕ) (r : Refusal) {m : ℕ} {old : List ℕ} → number_of r ≡ m
    → (refusal_alone (number_of r) ≡ reply_of m number) × (old ≡ accepted m new old)
call-refused number new r {m = zero} is = absurd (number-some r is)
call-refused number new r {m = suc m} is = (rw is, refl)

-- the reply of an accepted call and its book
pub call-accepted : (number : ℕ) (old : List ℕ) {n m : ℕ} {new after : List ℕ} → 0 ≡ m → (n ≡ number) × (after ≡ new)
    → (reply_of 0 n ≡ reply_of m number) × (after ≡ accepted m new old)
call-accepted number old none made = rw (sym none) (ap (reply_of 0) made.0, made.1)

-- in a sound book the category of a numbered entry is numbered
entry-category : (ws : List ℕ) (entry : ℕ) → sound ws ≡ true → between 1 (entries ws) entry ≡ true
    → between 1 (categories ws) (entry_of ws entry).category ≡ true
unfolding entries_fine
entry-category ws entry fine inside =
    let low = between-low 1 (entries ws) entry inside in
    let high = between-high 1 (entries ws) entry inside in
    let place : entry - 1 < entries ws = omega arith in
    entry-inside ws (entry_of ws entry) (every-at (entries ws) (λ p. entry_fine ws (entry_at ws p)) (sound-parts ws fine).all-entries (entry - 1) place)

-- the records that a strike reads: that of the entry, and that of its category
module _ (ws : List ℕ) (entry : ℕ) {e : Entry} (fine : sound ws ≡ true) (read : numbered (entries ws) (entry_at ws) entry ≡ Some e) where
  pub struck-category : numbered (categories ws) (category_at ws) e.category ≡ Some (category_of ws e.category)
  struck-category =
      let there = numbered-some (entries ws) (entry_at ws) entry read in
      numbered-there (categories ws) (category_at ws) e.category (rw there.1 (entry-category ws entry fine there.0))

  -- the grounds of a strike by these
  pub strike-grounds : {category : Category} {n : ℕ} → numbered (categories ws) (category_at ws) e.category ≡ Some category
      → n ≡ first_of ((4, has_closed category || not (eqb e.struck 0)) ∷ [])
      → n ≡ strike_refusal ws entry
  unfolding strike_refusal
  strike-grounds named is =
      let there = numbered-some (entries ws) (entry_at ws) entry read in
      let here = numbered-some (categories ws) (category_at ws) e.category named in
      rw (fine, there.0) (is ∙ rw (here.1, there.1))
