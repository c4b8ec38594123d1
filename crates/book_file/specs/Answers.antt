-- What a load answers, and document 01's numbers for it. Assumes nothing.
use Rattle.std.specs.Prelude.{ℕ}
use Rattle.apportion.specs.Grounds.{accepted}
use Rattle.book_file.specs.declared.answers.Load.{Load}
use Rattle.book_file.specs.declared.answers.Load.TheVariants.{Loaded, Stopped}
use Rattle.book_file.specs.declared.answers.Numbers.{Numbers}
use Rattle.book_file.specs.declared.answers.Place.{Place}
use Rattle.book_file.specs.declared.answers.Place.TheVariants.{Header, Category, Entry, Element, Closing}

-- "the header, or a table (1 categories, 2 entries, 3 elements, 4 closings) and its record, which for a closing is the
-- category's number"; "table (0 header) and record (0)"
abbrev pub place_numbers : ℕ → Place → Numbers
place_numbers refusal Header = record { refusal = refusal; table = 0; «record» = 0 }
place_numbers refusal (Category number) = record { refusal = refusal; table = 1; «record» = number }
place_numbers refusal (Entry number) = record { refusal = refusal; table = 2; «record» = number }
place_numbers refusal (Element number) = record { refusal = refusal; table = 3; «record» = number }
place_numbers refusal (Closing number) = record { refusal = refusal; table = 4; «record» = number }

-- "The answer is either loaded, or stopped with the number and the place": the refusal number, the table and the record
abbrev pub numbers_of : Load → Numbers
numbers_of Loaded = record { refusal = 0; table = 0; «record» = 0 }
numbers_of (Stopped refusal place) = place_numbers refusal place

-- the answer after a record whose refusal number is this: 0 does not stop the load
unfoldable pub answer_at : ℕ → Place → Load
answer_at refusal place = accepted refusal Loaded (Stopped refusal place)
