-- "The program reads standard input and prints the heading and one line per used chain, ascending, or `refused` with number, table
-- (0 header) and record (0). A refused file prints that line only". The last line of a sheet is the request's. Assumes nothing.
use Rattle.std.specs.Prelude.{ℕ, List, replicate}
use Rattle.book_words.specs.Book.{book_length}
use Rattle.book_file.specs.Answers.{place_numbers}
use Rattle.book_file.specs.Loading.{load_answer, load_book}
use Rattle.book_file.specs.declared.answers.Load.{Load}
use Rattle.book_file.specs.declared.answers.Load.TheVariants.{Loaded, Stopped}
use Rattle.book_file.specs.declared.answers.Numbers.{Numbers}
use Rattle.report.specs.Sheet.{sheet_text, refused_text}

-- the line of a refusal, by its numbers
abbrev pub refused_line : Numbers → List ℕ
refused_line numbers = refused_text numbers.refusal numbers.table numbers.«record»

-- the text for an answer of loading: the sheet of the book, or the line of the refusal alone
abbrev pub text_for : Load → List ℕ → List ℕ
text_for Loaded book = sheet_text book
text_for (Stopped number place) book = refused_line (place_numbers number place)

-- what is printed for the bytes of a file that is loaded into these words
unfoldable pub printed_from : List ℕ → List ℕ → List ℕ
printed_from words file = text_for (load_answer words file) (load_book words file)

-- the words that the program loads into are all 0
abbrev pub zero_words : List ℕ
zero_words = replicate book_length 0

-- what the program prints
abbrev pub printed : List ℕ → List ℕ
printed file = printed_from zero_words file
