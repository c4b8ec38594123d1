-- The laws of a sheet, for the crates above, and the law of its table: after the first k elements it holds for every chain what the
-- walk of the chain's statement holds (`table-holds`). Assumes nothing.
use Prim.Native.Nat.{ℕ, ◌≤◌}
use native.Mathlib.Omega.{arith}
use mathlib.Core.Bool.{Bool, true, false, cond}
use mathlib.Core.List.{List, ◌++◌}
use mathlib.Core.Path.{◌≡◌, refl, sym, ◌∙◌, ap}
use borrow.Author.Tests.{le-leb}
use lib.Dec.{leb}
use lib.ListN.{length, drop}
use Rattle.apportion.specs.Grounds.{accepted}
use Rattle.book_words.specs.Soundness.{sound}
use Rattle.std.proofs.Common.{Ok, Err, not}
use Rattle.apportion.specs.declared.refusing.Refusal.TheVariants.{Unfit}
use Rattle.report.specs.declared.printing.Unprinted.TheVariants.{TooSmall, Refused}
use Rattle.report.specs.Printing.{Printed, Put, printed_numbers, answer_for, numbers_for, buffer_with}
use Rattle.report.specs.Sheet.{all_word, all_line, sheet_text, column_sums, sheet_refusal, sheet_answer, sheet_numbers, sheet_buffer, sheet_room}
use Rattle.report.specs.Text.{word_line, last_line_of}
pub use Rattle.report.proofs.Columns.{class-total-of-lines}
pub use Rattle.report.proofs.LastLine.{sheet-last-line}
pub use Rattle.report.proofs.Lines.{sheet-fits, refused-fits}
pub use Rattle.report.proofs.Puts.{Front, front_of}
pub use Rattle.report.proofs.TableRows.{table-holds}

-- what the answer for a text says: its number is 0
answer-numbers : (text : List ℕ) (room : ℕ) (answer : Printed) → answer ≡ answer_for text room
    → printed_numbers answer ≡ numbers_for 0 text room
unfolding answer_for numbers_for
answer-numbers text room answer is = ap printed_numbers is ∙ go (leb (length text) room)
  where
    go : (fits : Bool) → printed_numbers (cond fits (Ok (length text)) (Err (TooSmall (length text))))
        ≡ record { refusal = 0; written = fits; length = length text }
    go true = refl
    go false = refl

module _ (ws : List ℕ) where
  -- the sheet of a sound book is printed, and that of another refused
  pub sheet-answered : (room : ℕ) → sound ws ≡ true → sheet_answer ws room ≡ answer_for (sheet_text ws) room
  unfolding sheet_answer sheet_refusal
  sheet-answered room fine = rw fine

  pub sheet-printed : (buffer : List ℕ) → sound ws ≡ true → sheet_buffer ws buffer ≡ buffer_with (sheet_text ws) buffer
  unfolding sheet_buffer sheet_refusal
  sheet-printed buffer fine = rw fine

  pub sheet-refused : (room : ℕ) → sound ws ≡ false → sheet_answer ws room ≡ Err (Refused Unfit)
  unfolding sheet_answer sheet_refusal
  sheet-refused room unsound = rw unsound

  pub sheet-unprinted : (buffer : List ℕ) → sound ws ≡ false → sheet_buffer ws buffer ≡ buffer
  unfolding sheet_buffer sheet_refusal
  sheet-unprinted buffer unsound = rw unsound

  -- what the answer says: document 01's number is that of the first ground
  pub sheet-numbers : (room : ℕ) (answer : Printed) → answer ≡ sheet_answer ws room → printed_numbers answer ≡ sheet_numbers ws room
  unfolding sheet_answer sheet_numbers sheet_refusal numbers_for
  sheet-numbers room answer is = ap printed_numbers is ∙ go (sound ws)
    where
      go : (fine : Bool) → printed_numbers (accepted (cond (not fine) 1 0) (answer_for (sheet_text ws) room) (Err (Refused Unfit)))
          ≡ numbers_for (cond (not fine) 1 0) (sheet_text ws) room
      go true = answer-numbers (sheet_text ws) room (answer_for (sheet_text ws) room) refl
      go false = refl

  -- the last line of a sheet has the sums of its columns
  pub last-of-lines : sound ws ≡ true → last_line_of (sheet_text ws) ≡ word_line all_word (column_sums ws)
  unfolding all_line
  last-of-lines fine = sheet-last-line ws ∙ ap (word_line all_word) (class-total-of-lines ws fine)

  -- what was printed of its text is what is printed of a sound book
  pub sheet-given : (buffer : List ℕ) {answer : Printed} {after : List ℕ} → sound ws ≡ true
      → (answer ≡ answer_for (sheet_text ws) (length buffer)) × (after ≡ buffer_with (sheet_text ws) buffer)
      → (answer ≡ sheet_answer ws (length buffer)) × ((printed_numbers answer ≡ sheet_numbers ws (length buffer)) × (after ≡ sheet_buffer ws buffer))
  sheet-given buffer fine gave =
      let answered = gave.0 ∙ sym (sheet-answered (length buffer) fine) in
      (answered, (sheet-numbers (length buffer) _ answered, gave.1 ∙ sym (sheet-printed buffer fine)))

-- the answer of a text of this length
abbrev answer_of : ℕ → Printed
answer_of n = Ok n

-- a text that fits is written whole, and the bytes past it stay as they were
pub fitting-written : (text : List ℕ) (room : ℕ) → length text ≤ room → answer_for text room ≡ Ok (length text)
unfolding answer_for
fitting-written text room h = rw (le-leb (length text) room h)

pub fitting-buffer : (text buffer : List ℕ) → length text ≤ length buffer → buffer_with text buffer ≡ text ++ drop (length text) buffer
unfolding buffer_with
fitting-buffer text buffer h = rw (le-leb (length text) (length buffer) h)

-- so where it is put into the buffer itself
pub stored-printed : (text buffer : List ℕ) {after : List ℕ} {count : ℕ} → length text ≤ length buffer → Put text buffer after count
    → (Ok count ≡ answer_for text (length buffer)) × (after ≡ buffer_with text buffer)
stored-printed text buffer h put = (
  ap (λ (n : ℕ). answer_of n) put.counted ∙ sym (fitting-written text (length buffer) h),
  put.stored ∙ sym (fitting-buffer text buffer h),
)

-- and so is a sheet
pub sheet-stored : (ws buffer : List ℕ) {count : ℕ} {after : List ℕ} → sound ws ≡ true → sheet_room ≤ length buffer
    → Put (sheet_text ws) buffer after count
    → (Ok count ≡ sheet_answer ws (length buffer)) × ((printed_numbers (Ok count) ≡ sheet_numbers ws (length buffer)) × (after ≡ sheet_buffer ws buffer))
sheet-stored ws buffer fine room put =
    sheet-given ws buffer fine (stored-printed (sheet_text ws) buffer (omega (arith, room, sheet-fits ws fine)) put)
