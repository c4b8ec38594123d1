-- A text in a lent buffer, whole or not at all. Assumes nothing.
use Rattle.std.specs.Prelude.{Result, Ok, Err, ℕ, ◌≡◌, Bool, true, false, cond, List, ◌++◌, leb, length, drop}
use Rattle.apportion.specs.Grounds.{accepted}
use Rattle.apportion.specs.Refusals.{number_of}
use Rattle.report.specs.declared.printing.Unprinted.{Unprinted}
use Rattle.report.specs.declared.printing.Unprinted.TheVariants.{TooSmall, Refused}

-- what printing answers: the length of the text that is written, or why none is
abbrev pub Printed : Type 0
Printed = Result ℕ Unprinted

-- what an answer says: document 01's number, 0 where nothing is refused; whether the text is written; and its length
pub record PrintedNumbers : Type 0 where
  pub refusal : ℕ
  pub written : Bool
  pub length : ℕ

-- these, for each case of the answer. Document 01 has no number for a buffer that is too small
abbrev pub printed_numbers : Printed → PrintedNumbers
printed_numbers (Ok n) = record { refusal = 0; written = true; length = n }
printed_numbers (Err (TooSmall n)) = record { refusal = 0; written = false; length = n }
printed_numbers (Err (Refused refusal)) = record { refusal = number_of refusal; written = false; length = 0 }

-- a text has room in a buffer of so many bytes
abbrev pub fits : List ℕ → ℕ → Bool
fits text room = leb (length text) room

-- the answer where a text is to stand in a buffer of `room` bytes: its length, and whether it is written
unfoldable pub answer_for : List ℕ → ℕ → Printed
answer_for text room = cond (fits text room) (Ok (length text)) (Err (TooSmall (length text)))

-- what is said of a text in a buffer of `room` bytes, by the refusal number: where it is not 0, nothing is written and no length told
unfoldable pub numbers_for : ℕ → List ℕ → ℕ → PrintedNumbers
numbers_for refusal text room =
    record {
      refusal = refusal;
      written = accepted refusal (fits text room) false;
      length = accepted refusal (length text) 0;
    }

-- the buffer after it: the text, and the bytes past it as they were; where the text does not fit, all as it was
unfoldable pub buffer_with : List ℕ → List ℕ → List ℕ
buffer_with text buffer = cond (fits text (length buffer)) (text ++ drop (length text) buffer) buffer

-- a text is put at the start of a buffer that has room for it: its length is answered, and the bytes past it stay as they were
pub record Put (text before after : List ℕ) (count : ℕ) : Type 0 where
  pub counted : count ≡ length text
  pub stored : after ≡ text ++ drop (length text) before
