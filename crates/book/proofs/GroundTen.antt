-- Ground 10 by the sums that a record would make. Assumes nothing.
use mathlib.Core.Bool.{Bool, true, false, not, cond}
use mathlib.Core.List.{List, [], ◌∷◌}
use mathlib.Core.Path.{◌≡◌, refl, sym, ap, ◌∙◌}
use Prim.Native.Nat.{ℕ, ◌+◌}
use native.Mathlib.Omega.{arith}
use borrow.Author.Tests.{not-true, not-false}
use Rattle.apportion.specs.Grounds.{accepted, Ground, first_of}
use Rattle.apportion.specs.Inner.Grounds.{grounds_before}
use Rattle.book_words.specs.Measures.{standard_activity}
use Rattle.book_words.specs.Soundness.{sound}
use Rattle.book_words.specs.Totals.{sums_of, with_entry, with_element, within_limits, passes_limits}
use Rattle.book_words.specs.Inner.Steps.{capped, cap_sums}
use Rattle.book_words.specs.declared.totals.Sums.{Sums}
use Rattle.book.specs.declared.arguments.PostArguments.{PostArguments}
use Rattle.book.specs.declared.arguments.QuoteArguments.{QuoteArguments}
use Rattle.book.specs.Replies.{Reply, reply_of}
use Rattle.book.specs.Inner.Appending.{ten_of, cap_amounts, cap_shares}
use Rattle.book.specs.Calls.{posted_entry, quoted_element}
use Rattle.apportion.proofs.Grounds.{are_numbered, grounds_from, decided-from}
use Rattle.book_words.proofs.CappedSums.{capped_small, capped-more, sums-exact, sums-within, within-parts}

-- the sums with two amounts more, and this activity
module _ (sums : Sums) (x y z : ℕ) where
  abbrev raised : ℕ → ℕ → Sums
  raised a b = record { operation = sums.operation + a; provision = sums.provision + b; activity = z }

  cap-passes : passes_limits (raised (capped x) (capped y)) ≡ passes_limits (raised x y)
  cap-passes =
      let same : cap_sums (raised (capped x) (capped y)) ≡ cap_sums (raised x y) = rw (capped-more sums.operation x, capped-more sums.provision y) in
      ap not (sym (sums-within (raised (capped x) (capped y))) ∙ ap within_limits same ∙ sums-within (raised x y))

  cap-exact : passes_limits (raised x y) ≡ false → (capped x ≡ x) × (capped y ≡ y)
  cap-exact e =
      let within = within-parts (raised x y) (not-false (within_limits (raised x y)) e) in
      (capped_small x (omega (arith, within.0)), capped_small y (omega (arith, within.1)))

-- one record passes the limits as another does, and where it does not, they are the same
abbrev Alike : {R : Type 0} → (R → Sums) → R → R → Type 0
Alike with-record one other =
    (passes_limits (with-record one) ≡ passes_limits (with-record other)) × (passes_limits (with-record other) ≡ false → one ≡ other)

-- so do a record whose amounts are capped and the record
module _ (sums : Sums) where
  pub post-capped : (p : PostArguments) → Alike (with_entry sums) (cap_amounts (posted_entry p)) (posted_entry p)
  post-capped p =
      let r = posted_entry p in (
        cap-passes sums r.operation r.provision sums.activity,
        λ e. let exact = cap-exact sums r.operation r.provision sums.activity e in rw (exact.0, exact.1),
      )

  pub quote-capped : (q : QuoteArguments) → Alike (with_element sums) (cap_shares (quoted_element q)) (quoted_element q)
  unfolding standard_activity
  quote-capped q =
      let r = quoted_element q in
      let activity = sums.activity + standard_activity r in (
        cap-passes sums r.operation r.provision activity,
        λ e. let exact = cap-exact sums r.operation r.provision activity e in rw (exact.0, exact.1),
      )

-- what a call with this refusal number answers and leaves, with the sums of the book that is left
abbrev pub Answered : ℕ → ℕ → List ℕ → List ℕ → Reply → List ℕ → Sums → Type 0
Answered refusal number new old reply after sums =
    (reply ≡ reply_of refusal number) × ((after ≡ accepted refusal new old) × (sums ≡ sums_of after))

-- a record is refused, or admitted, by the capped sums that it would make, which are `more`
module _ (more : Sums) (number : ℕ) (new old : List ℕ) {after : Sums} {t : Bool} (is : after ≡ cap_sums more) (test : t ≡ within_limits after) where
  decided : t ≡ within_limits more
  decided = test ∙ ap within_limits is ∙ sums-within more

  pub refused-with : {r : Reply} {sums : Sums} → not t ≡ true → r ≡ record { refusal = 10; number = 0 } → sums ≡ sums_of old
      → Answered (ten_of more) number new old r old sums
  refused-with past e known =
      let over = sym decided ∙ not-true t past in
      (rw over e, (rw over refl, known))

  pub admitted : {r : Reply} {left : List ℕ} → not t ≡ false → (r ≡ reply_of 0 number) × (left ≡ new) → sums_of new ≡ more
      → Answered (ten_of more) number new old r left after
  admitted within made sums =
      let fine = sym decided ∙ not-false t within in
      (rw fine made.0, (rw fine made.1, is ∙ sums-exact more fine ∙ sym (ap sums_of made.1 ∙ sums)))

-- Past the grounds before 10 the record `made`, which was admitted or not, and the call's record `new` decide alike: the reply and the
-- book are the call's.
pub record-decided : {R : Type 0} (with-record : Sums → R → Sums) (add : List ℕ → R → List ℕ) (new cap : R) (gs : List Ground) (number : ℕ) (ws : List ℕ)
    {made : R} {sums left : Sums} {r : Reply} {after : List ℕ} → are_numbered gs ≡ true
    → grounds_from 10 gs ≡ (10, passes_limits (with-record (sums_of ws) new)) ∷ []
    → 0 ≡ first_of (grounds_before 10 gs) → sums ≡ sums_of ws → made ≡ cap → Alike (with-record sums) cap new
    → Answered (ten_of (with-record sums made)) number (add ws made) ws r after left
    → Answered (first_of gs) number (add ws new) ws r after left
record-decided with-record add new cap gs number ws {sums = sums} {left = left} {r = r} {after = after} numbered ten none known made-is alike gave =
    rw (decided-from 10 gs numbered (sym none) ∙ ap first_of ten, ← known)
    (go (passes_limits (with-record sums new)) refl (rw (made-is, alike.0) at gave))
  where
    go : (b : Bool) → passes_limits (with-record sums new) ≡ b → Answered (cond b 10 0) number (add ws cap) ws r after left
        → Answered (cond b 10 0) number (add ws new) ws r after left
    go true e a = a
    go false e a = (a.0, (a.1.0 ∙ ap (add ws) (alike.1 e), a.1.1))

-- so of the reply and the book alone, where the sums are the book's; and where the sums with the record are within their limits, the
-- book with it is the call's
module _ {R : Type 0} (with-record : Sums → R → Sums) (add : List ℕ → R → List ℕ) (new cap : R) (gs : List Ground) (ws : List ℕ) {made : R}
    (numbered : are_numbered gs ≡ true) (ten : grounds_from 10 gs ≡ (10, passes_limits (with-record (sums_of ws) new)) ∷ [])
    (none : 0 ≡ first_of (grounds_before 10 gs)) (made-is : made ≡ cap) (alike : Alike (with-record (sums_of ws)) cap new) where
  pub call-decided : (number : ℕ) {r : Reply} {after : List ℕ}
      → (r ≡ reply_of (ten_of (with-record (sums_of ws) made)) number) × (after ≡ accepted (ten_of (with-record (sums_of ws) made)) (add ws made) ws)
      → (r ≡ reply_of (first_of gs) number) × (after ≡ accepted (first_of gs) (add ws new) ws)
  call-decided number gave =
      let decided = record-decided with-record add new cap gs number ws numbered ten none refl made-is alike (gave.0, (gave.1, refl)) in
      (decided.0, decided.1.0)

  pub call-suits : sound (accepted (first_of gs) (add ws new) ws) ≡ true → within_limits (with-record (sums_of ws) made) ≡ true
      → sound (add ws made) ≡ true
  call-suits fine within =
      let left : accepted (ten_of (with-record (sums_of ws) made)) (add ws made) ws ≡ accepted (first_of gs) (add ws new) ws = (call-decided 0 (refl, refl)).1 in
      ap sound (rw within at left) ∙ fine
