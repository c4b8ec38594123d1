-- What the records do, one after the other. Assumes nothing.
use Prim.Native.Nat.{ℕ, zero, suc, ◌+◌, ◌≤◌, ◌<◌, min}
use native.Mathlib.Omega.{arith}
use mathlib.Core.Bool.{Bool, true, false, cond, ◌&&◌}
use mathlib.Core.List.{List, [], ◌∷◌, ◌++◌, append-nil}
use mathlib.Core.Path.{◌≡◌, refl, ap, sym, ◌∙◌}
use borrow.Author.Tests.{le-ltb, le-leb}
use lib.ListN.{length, drop, length-append, drop_of_length-le, get_or-append}
use lib.Seq.{take-append-le, drop-append_seam}
use Rattle.book_file.specs.Bytes.{little_endian, number_at}
use Rattle.book_words.proofs.Booleans.{cond_same}
use Rattle.replay.specs.Stages.{record_bytes, Stage, counted, due, handled, operated, replayed, records_in}
use Rattle.replay.specs.Words.{words_of}

-- what is made of the one or the other
pub cond-through : {A B : Type 0} (f : A → B) (test : Bool) (one other : A) → f (cond test one other) ≡ cond test (f one) (f other)
cond-through f true one other = refl
cond-through f false one other = refl

-- records are counted where they are read, and nowhere else
handled-passed : (bytes : List ℕ) (stage : Stage) → (handled bytes stage).passed ≡ stage.passed
unfolding handled operated due
handled-passed bytes stage = simp (cond-through (λ (s : Stage). s.passed), cond_same)

-- a record was bad, where what was written did not fail
pub unfailed-bad : (good ok : Bool) → (good && ok) ≡ false → ok ≡ true → good ≡ false
unfailed-bad true ok either written = sym written ∙ either
unfailed-bad false ok either written = refl

-- a number that ends within the bytes in front
spelled : (width : ℕ) (front more : List ℕ) (position : ℕ) → position + width ≤ length front
    → little_endian width (front ++ more) position ≡ little_endian width front position
spelled zero front more position h = refl
spelled (suc width) front more position h =
    let inside : position < length front = omega arith in
    rw (get_or-append front more 0 position inside, spelled width front more (position + 1) (omega arith))

number-front : (width : ℕ) (front more : List ℕ) (position : ℕ) → position + width ≤ length front
    → number_at width (front ++ more) position ≡ number_at width front position
unfolding number_at
number-front width front more position h =
    rw (le-leb (position + width) (length front) h, le-leb (position + width) (length (front ++ more)) (simp length-append (omega arith)), spelled width front more position h)

words-front : (front more : List ℕ) → record_bytes ≤ length front → words_of (front ++ more) ≡ words_of front
words-front front more h =
    rw (
      number-front 8 front more 0 (omega arith),
      number-front 8 front more 8 (omega arith),
      number-front 8 front more 16 (omega arith),
      number-front 8 front more 24 (omega arith),
      number-front 8 front more 32 (omega arith),
      number-front 8 front more 40 (omega arith),
      number-front 8 front more 48 (omega arith),
      number-front 8 front more 56 (omega arith),
    )

-- a record is handled by its own bytes, and what follows it is left
module _ (front : List ℕ) where
  handled-front : (more : List ℕ) (stage : Stage) → length front ≡ min record_bytes (length (front ++ more))
      → handled front stage ≡ handled (front ++ more) stage
  unfolding handled
  handled-front [] stage sized = rw append-nil
  handled-front (b ∷ more) stage sized =
      let whole : record_bytes ≤ length front = omega (arith, length-append front (b ∷ more)) in
      rw (
        words-front front (b ∷ more) whole,
        le-ltb (length front) record_bytes whole,
        le-ltb (length (front ++ (b ∷ more))) record_bytes (omega (arith, length-append front (b ∷ more))),
        take-append-le (min stage.missing record_bytes) front (b ∷ more) (omega arith),
      )

  left-behind : (more : List ℕ) → length front ≡ min record_bytes (length (front ++ more)) → drop record_bytes (front ++ more) ≡ more
  left-behind [] sized =
      let few : length front ≤ record_bytes = omega (arith, sized) in
      rw append-nil (drop_of_length-le front few)
  left-behind (b ∷ more) sized =
      let whole : length front ≡ record_bytes = omega (arith, length-append front (b ∷ more)) in
      rw (← whole) (drop-append_seam front (b ∷ more))

-- a turn of the loop over the records of a chunk, of which `front` is the next; the stage after it is `next`
module _ (front more : List ℕ) (stage next : Stage) (sized : length front ≡ min record_bytes (length (front ++ more)))
    (some : 0 < length (front ++ more)) (done : next ≡ handled front (counted stage)) where
  one-record : records_in (front ++ more) ≡ suc (records_in more)
  one-record = omega (arith, sized, length-append front more)

  whole-done : next ≡ handled (front ++ more) (counted stage)
  whole-done = done ∙ handled-front front more (counted stage) sized

  pub replay-on : next.machine.good ≡ true → replayed more next ≡ replayed (front ++ more) stage
  replay-on good = rw (one-record, left-behind front more sized, ← whole-done, good)

  pub replay-stop : next.machine.good ≡ false → next ≡ replayed (front ++ more) stage
  replay-stop ended = rw (one-record, ← whole-done, ended)

  -- and one record more is counted
  pub one-passed : next.passed ≡ stage.passed + 1
  one-passed = ap (λ (s : Stage). s.passed) done ∙ handled-passed front (counted stage)
