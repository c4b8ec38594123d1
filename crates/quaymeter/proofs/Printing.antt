-- What is printed has room, and so is printed whole; what is printed for an input that is too long. Assumes nothing.
use Prim.Native.Nat.{ℕ, ◌≤◌, ◌<◌}
use native.Mathlib.Omega.{arith}
use mathlib.Core.Bool.{true}
use borrow.Author.Tests.{lt-ltb, le-ltb}
use mathlib.Core.List.{List, ◌++◌}
use mathlib.Core.Path.{◌≡◌, refl, sym, ◌∙◌, ap}
use lib.ListN.{length, drop}
use Rattle.book_file.proofs.Laws.{loaded-sound, header-stops}
use Rattle.book_file.specs.Answers.{place_numbers}
use Rattle.book_file.specs.File.{most_bytes, header_length, header_refusal, wrong_header}
use Rattle.book_file.specs.Loading.{Loading, load_answer, load_book}
use Rattle.book_file.specs.declared.answers.Load.{Load}
use Rattle.book_file.specs.declared.answers.Load.TheVariants.{Loaded, Stopped}
use Rattle.book_file.specs.declared.answers.Place.{Place}
use Rattle.book_words.specs.Book.{book_length}
use Rattle.book_words.specs.Soundness.{sound}
use Rattle.report.proofs.Laws.{sheet-answered, sheet-fits, refused-fits, fitting-written, fitting-buffer}
use Rattle.std.proofs.Common.{Ok}
use Rattle.report.specs.Printing.{Printed, answer_for, buffer_with}
use Rattle.report.specs.Sheet.{sheet_text, sheet_room, sheet_answer, refused_text}
use Rattle.quaymeter.specs.Program.{refused_line, text_for, printed_from}

-- the sheet of a sound book fits in the room of a sheet, and so is printed whole; so is the line of a refusal
pub sheet_whole : (book : List ℕ) (room : ℕ) {answer : Printed} → answer ≡ sheet_answer book room → sound book ≡ true → room ≡ sheet_room
    → answer ≡ Ok (length (sheet_text book))
sheet_whole book room is fine are =
    is ∙ sheet-answered book room fine ∙ fitting-written (sheet_text book) room (omega (arith, are, sheet-fits book fine))

pub line_whole : (number table record_number room : ℕ) {answer : Printed} → answer ≡ answer_for (refused_text number table record_number) room
    → room ≡ sheet_room → answer ≡ Ok (length (refused_text number table record_number))
line_whole number table record_number room is are =
    is ∙ fitting-written (refused_text number table record_number) room (omega (arith, are, refused-fits number table record_number))

-- the sheet of a book, or the line of a refusal
fits-for : (answer : Load) (book : List ℕ) → (answer ≡ Loaded → sound book ≡ true) → length (text_for answer book) ≤ sheet_room
fits-for Loaded book fine = sheet-fits book (fine refl)
fits-for (Stopped number place) book fine =
    let n = place_numbers number place in
    omega (arith, refused-fits n.refusal n.table n.«record»)

-- by the answer of loading
pub printed_book : (words file : List ℕ) {book : List ℕ} {answer : Load} → answer ≡ Loaded → answer ≡ load_answer words file
    → book ≡ load_book words file → sheet_text book ≡ printed_from words file
unfolding printed_from
printed_book words file told is left =
    ap (λ (b : List ℕ). text_for Loaded b) left ∙ ap (λ (a : Load). text_for a (load_book words file)) (sym told ∙ is)

pub printed_refusal : (words file : List ℕ) {answer : Load} {number : ℕ} {place : Place} → answer ≡ Stopped number place
    → answer ≡ load_answer words file → refused_line (place_numbers number place) ≡ printed_from words file
unfolding printed_from
printed_refusal words file told is = ap (λ (a : Load). text_for a (load_book words file)) (sym told ∙ is)

-- so what is printed fits
pub printed-fits : (words file : List ℕ) → length (printed_from words file) ≤ sheet_room
unfolding printed_from
printed-fits words file = fits-for (load_answer words file) (load_book words file) (loaded-sound words file)

-- and the buffer begins with it
pub printed-front : (words file buffer : List ℕ) {out : List ℕ} {count : ℕ} → length buffer ≡ sheet_room → count ≡ length (printed_from words file)
    → out ≡ buffer_with (printed_from words file) buffer → out ≡ printed_from words file ++ drop count buffer
printed-front words file buffer room counted is =
    is
    ∙ fitting-buffer (printed_from words file) buffer (omega (arith, room, printed-fits words file))
    ∙ ap (λ (n : ℕ). printed_from words file ++ drop n buffer) (sym counted)

-- a file that is too long is refused with 11, whatever its bytes: so what is read of a longer input is refused as the whole is
eleven : (words file : List ℕ) → book_length ≤ length words → most_bytes < length file → header_refusal (length words) file ≡ 11
unfolding header_refusal wrong_header
eleven words file room long =
    rw (le-ltb (length words) book_length room, le-ltb (length file) header_length (omega (arith, long)), lt-ltb most_bytes (length file) long)

pub too_long : (words file : List ℕ) → book_length ≤ length words → most_bytes < length file → printed_from words file ≡ refused_text 11 0 0
unfolding printed_from
too_long words file room long =
    let n = eleven words file room long in
    ap (λ (l : Loading). text_for l.answer l.book) (header-stops words file (λ z. omega (arith, n, z))) ∙ ap (λ (k : ℕ). refused_text k 0 0) n
