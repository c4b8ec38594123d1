-- What a header that stops nothing says of the file. Assumes nothing.
use mathlib.Core.Bool.{false, ◌||◌}
use mathlib.Core.List.{List}
use mathlib.Core.Path.{◌≡◌, refl}
use Prim.Native.Nat.{ℕ, ◌+◌, ◌<◌, ◌≤◌}
use native.Mathlib.Nat.{mul-le-mul_right}
use native.Mathlib.Omega.{arith}
use lib.Dec.{ltb}
use lib.ListN.{length}
use borrow.Author.Tests.{ltb-false}
use Rattle.apportion.proofs.Grounds.{condition_of, none-holds, or-none}
use Rattle.book_words.specs.Book.{book_length}
use Rattle.book_file.specs.declared.header.Section.{Section}
use Rattle.book_file.specs.File.{header_length, categories_in, entries_in, elements_in, record_at, section_end}
use Rattle.book_file.specs.File.{misplaced, wrong_sections, header_grounds, header_refusal}
use Rattle.book_file.specs.Loading.{Table, Categories, Entries, Elements, Closings, section_of}

-- a section that starts and ends where it may
record Placed (earliest : ℕ) (section : Section) (file_length : ℕ) : Type 0 where
  after : earliest ≤ section.start
  before : section_end section ≤ file_length

not-misplaced : (earliest : ℕ) (section : Section) (file_length : ℕ) → misplaced earliest section file_length ≡ false → Placed earliest section file_length
unfolding misplaced
not-misplaced earliest section file_length e =
    let parts = or-none (ltb section.start earliest) (ltb file_length (section_end section)) e in
    record {
      after = ltb-false section.start earliest parts.0;
      before = ltb-false file_length (section_end section) parts.1;
    }

module _ (words : ℕ) (file : List ℕ) (fine : header_refusal words file ≡ 0) where
  none : (number : ℕ) → condition_of number (header_grounds words file) ≡ false
  unfolding header_refusal
  none = none-holds (header_grounds words file) refl fine

  -- the slice has room for a book
  pub header-long : book_length ≤ words
  header-long = ltb-false words book_length (none 1)

  -- the sections follow one another inside the file
  placed : Placed header_length (categories_in file) (length file)
      × (Placed (section_end (categories_in file)) (entries_in file) (length file)
      × Placed (section_end (entries_in file)) (elements_in file) (length file))
  unfolding wrong_sections
  placed =
      let first = misplaced header_length (categories_in file) (length file) in
      let second = misplaced (section_end (categories_in file)) (entries_in file) (length file) in
      let third = misplaced (section_end (entries_in file)) (elements_in file) (length file) in
      let last = or-none (first || second) third (none 12) in
      let both = or-none first second last.0 in (
        not-misplaced header_length (categories_in file) (length file) both.0,
        (
          not-misplaced (section_end (categories_in file)) (entries_in file) (length file) both.1,
          not-misplaced (section_end (entries_in file)) (elements_in file) (length file) last.1,
        ),
      )

  -- every record of a table stands inside the file, so that no number of it is read past the end
  pub record-inside : (table : Table) (place : ℕ) → place < (section_of file table).count
      → record_at (section_of file table) place + (section_of file table).size ≤ length file
  record-inside table place h =
      omega (arith, mul-le-mul_right (section_of file table).size h, of-table table)
    where
      of-table : (t : Table) → section_end (section_of file t) ≤ length file
      of-table Categories = placed.0.before
      of-table Entries = placed.1.0.before
      of-table Elements = placed.1.1.before
      of-table Closings = placed.0.before
