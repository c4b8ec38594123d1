-- "The file", as the list of its bytes: header, sections and the fields of records; grounds 11 and 12. Places are counted from 0.
-- Assumes nothing.
use Rattle.std.specs.Prelude.{Bool, not, ◌||◌, List, [], ◌∷◌, ℕ, ◌+◌, ◌*◌, ltb, eqb, length}
use Rattle.apportion.specs.Grounds.{Ground, first_of}
use Rattle.book.specs.declared.arguments.PostArguments.{PostArguments}
use Rattle.book_words.specs.Book.{book_length, mark}
use Rattle.book_file.specs.declared.header.Section.{Section}
use Rattle.book_file.specs.declared.records.CategoryRecord.{CategoryRecord}
use Rattle.book_file.specs.declared.records.ElementRecord.{ElementRecord}
use Rattle.book_file.specs.Bytes.{u32_at, u64_at}

-- "a header of counts and offsets: eight u32, namely 14083, categories, their offset, entries, offset, elements, offset, file
-- length"; these are numbered from 0
abbrev pub header_length : ℕ
header_length = 32

abbrev pub header_number : List ℕ → ℕ → ℕ
header_number file position = u32_at file (4 * position)

-- the section whose count and offset are this number of the header and the next, in records of `size` bytes
abbrev pub section_in : List ℕ → ℕ → ℕ → Section
section_in file position size =
    record { count = header_number file position; start = header_number file (position + 1); size = size }

abbrev pub categories_in : List ℕ → Section
categories_in file = section_in file 1 8

abbrev pub entries_in : List ℕ → Section
entries_in file = section_in file 3 32

abbrev pub elements_in : List ℕ → Section
elements_in file = section_in file 5 48

-- where the record at a place starts, and where the section ends
abbrev pub record_at : Section → ℕ → ℕ
record_at section place = section.start + place * section.size

abbrev pub section_end : Section → ℕ
section_end section = record_at section section.count

-- "11. A file is under 32 or over 16,384 bytes, or its first or last header number is wrong."
abbrev pub most_bytes : ℕ
most_bytes = 16_384

unfoldable pub wrong_header : List ℕ → Bool
wrong_header file =
    ltb (length file) header_length
    || ltb most_bytes (length file)
    || not (eqb (header_number file 0) mark)
    || not (eqb (header_number file 7) (length file))

-- "12. A section starts before the previous ends (the header, for categories), or ends past the file; an empty section too."
unfoldable pub misplaced : ℕ → Section → ℕ → Bool
misplaced earliest section file_length = ltb section.start earliest || ltb file_length (section_end section)

unfoldable pub wrong_sections : List ℕ → Bool
wrong_sections file =
    misplaced header_length (categories_in file) (length file)
    || misplaced (section_end (categories_in file)) (entries_in file) (length file)
    || misplaced (section_end (entries_in file)) (elements_in file) (length file)

-- "Loading checks the slice length of ground 1, then 11, 12"; `words` is the length of the slice
abbrev pub header_grounds : ℕ → List ℕ → List Ground
header_grounds words file =
    (1, ltb words book_length)
    ∷ (11, wrong_header file)
    ∷ (12, wrong_sections file)
    ∷ []

unfoldable pub header_refusal : ℕ → List ℕ → ℕ
header_refusal words file = first_of (header_grounds words file)

-- "Category: u32 kind, u32 flag."
abbrev pub category_record : List ℕ → ℕ → CategoryRecord
category_record file position = record { kind = u32_at file position; flag = u32_at file (position + 4) }

-- "Entry: u32 category, group; u64 quantity, operation factor, provision factor."
abbrev pub entry_record : List ℕ → ℕ → PostArguments
entry_record file position =
    record {
      category = u32_at file position;
      group = u32_at file (position + 4);
      quantity = u64_at file (position + 8);
      operation_factor = u64_at file (position + 16);
      provision_factor = u64_at file (position + 24);
    }

-- "Element: u32 category, chain, code, adjust; u64 amount, distance, two intensities."
abbrev pub element_record : List ℕ → ℕ → ElementRecord
element_record file position =
    record {
      category = u32_at file position;
      chain = u32_at file (position + 4);
      code = u32_at file (position + 8);
      adjust = u32_at file (position + 12);
      amount = u64_at file (position + 16);
      distance = u64_at file (position + 24);
      operation = u64_at file (position + 32);
      provision = u64_at file (position + 40);
    }
