-- "Loading": a load is a list of calls, made up to the first that stops it. Assumes nothing.
use Rattle.std.specs.Prelude.{Bool, true, false, not, cond, ◌&&◌, ◌||◌, List, [], ◌∷◌, ◌++◌, ℕ, ◌+◌, ltb, eqb, length}
use Rattle.apportion.specs.Grounds.{accepted}
use Rattle.apportion.specs.Places.{kept_below}
use Rattle.book_words.specs.Measures.{is_passenger}
use Rattle.book.specs.Calls.{fresh_book}
use Rattle.book.specs.declared.arguments.EnrolArguments.{EnrolArguments}
use Rattle.book.specs.declared.arguments.PostArguments.{PostArguments}
use Rattle.book.specs.declared.arguments.QuoteArguments.{QuoteArguments}
use Rattle.conservation.specs.declared.Call.{Call}
use Rattle.conservation.specs.declared.Call.TheVariants.{Open, Post, Enrol, Quote, Close}
use Rattle.conservation.specs.Runs.{step}
use Rattle.book_file.specs.declared.answers.Load.{Load}
use Rattle.book_file.specs.declared.answers.Load.TheVariants.{Loaded, Stopped}
use Rattle.book_file.specs.declared.answers.Numbers.{Numbers}
use Rattle.book_file.specs.declared.answers.Place.{Place}
use Rattle.book_file.specs.declared.answers.Place.TheVariants.{Header, Category, Entry, Element, Closing}
use Rattle.book_file.specs.declared.header.Section.{Section}
use Rattle.book_file.specs.declared.records.CategoryRecord.{CategoryRecord}
use Rattle.book_file.specs.declared.records.ElementRecord.{ElementRecord}
use Rattle.book_file.specs.Answers.{numbers_of, answer_at}
use Rattle.book_file.specs.File.{header_refusal, categories_in, entries_in, elements_in, record_at, category_record, entry_record, element_record}

-- what a record of the file asks for: its place, whether ground 13 holds of it, and its call
pub record Task : Type 0 where
  pub place : Place
  pub broken : Bool
  pub call : Call

-- "13. A record's closing flag is above 1, or a field that must be 0 is not." `number` is the record's
abbrev pub opening : ℕ → CategoryRecord → Task
opening number r = record { place = Category number; broken = ltb 1 r.flag; call = Open r.kind }

abbrev pub posting : ℕ → PostArguments → Task
posting number p = record { place = Entry number; broken = false; call = Post p }

-- an element's fields as the arguments of a quote
abbrev pub quote_arguments : ElementRecord → QuoteArguments
quote_arguments r =
    record {
      chain = r.chain;
      adjust = r.adjust;
      mass = r.amount;
      distance = r.distance;
      operation_intensity = r.operation;
      provision_intensity = r.provision;
    }

-- "Code must be 0 with category 0"
abbrev pub quoting : ℕ → ElementRecord → Task
quoting number r = record { place = Element number; broken = not (eqb r.code 0); call = Quote (quote_arguments r) }

-- and as those of an enrolment, whose kg per head is the adjust field
abbrev pub enrol_arguments : ElementRecord → EnrolArguments
enrol_arguments r =
    record {
      category = r.category;
      chain = r.chain;
      code = r.code;
      amount = r.amount;
      distance = r.distance;
      kg_per_head = r.adjust;
    }

-- "adjust and intensities must be 0 otherwise"; "In files the adjust field of a passenger element carries it, so 13 no longer wants 0
-- there."
abbrev pub enrolling : ℕ → ElementRecord → Task
enrolling number r =
    record {
      place = Element number;
      broken = (not (is_passenger r.code) && not (eqb r.adjust 0))
          || not (eqb r.operation 0)
          || not (eqb r.provision 0);
      call = Enrol (enrol_arguments r);
    }

-- "enrols or quotes": category 0 is that of a quote
abbrev pub enrolling_or_quoting : ℕ → ElementRecord → Task
enrolling_or_quoting number r = cond (eqb r.category 0) (quoting number r) (enrolling number r)

-- a closing's record "is the category's number"
abbrev pub closing : ℕ → Task
closing number = record { place = Closing number; broken = false; call = Close number }

-- "closes those flagged"
abbrev pub is_flagged : CategoryRecord → Bool
is_flagged r = eqb r.flag 1

-- the tables of a load: the categories are two, to be opened, and to be closed if flagged
pub data Table : Type 0 where
  Categories : Table
  Entries : Table
  Elements : Table
  Closings : Table

-- the section of a table; a closing is asked for by a category's flag
abbrev pub section_of : List ℕ → Table → Section
section_of file Categories = categories_in file
section_of file Entries = entries_in file
section_of file Elements = elements_in file
section_of file Closings = categories_in file

-- what the record at a place of a table asks for
abbrev pub task_at : List ℕ → Table → ℕ → Task
task_at file Categories place = opening (place + 1) (category_record file (record_at (categories_in file) place))
task_at file Entries place = posting (place + 1) (entry_record file (record_at (entries_in file) place))
task_at file Elements place = enrolling_or_quoting (place + 1) (element_record file (record_at (elements_in file) place))
task_at file Closings place = closing (place + 1)

-- whether it is asked for: of the closings, those of flagged categories
abbrev pub is_asked : List ℕ → Table → ℕ → Bool
is_asked file Categories place = true
is_asked file Entries place = true
is_asked file Elements place = true
is_asked file Closings place = is_flagged (category_record file (record_at (categories_in file) place))

-- the tasks of a table
unfoldable pub tasks_in : List ℕ → Table → List Task
tasks_in file table = kept_below (section_of file table).count (is_asked file table) (task_at file table)

-- "opens all, posts all, enrols or quotes all, closes those flagged"
unfoldable pub tasks_of : List ℕ → List Task
tasks_of file =
    tasks_in file Categories ++ (tasks_in file Entries ++ (tasks_in file Elements ++ tasks_in file Closings))

-- what a load has come to: its answer so far, and the book
pub record Loading : Type 0 where
  pub answer : Load
  pub book : List ℕ

abbrev pub loading_of : Load → List ℕ → Loading
loading_of answer book = record { answer = answer; book = book }

-- the refusal number of a task; "13 comes before the record's own call"
abbrev pub task_refusal : List ℕ → Task → ℕ
task_refusal ws task = cond task.broken 13 (step ws task.call).reply.refusal

-- a task on a book; "A call that stops leaves what earlier calls made"
unfoldable pub made : List ℕ → Task → Loading
made ws task =
    loading_of
    (answer_at (task_refusal ws task) task.place)
    (accepted (task_refusal ws task) (step ws task.call).book ws)

-- a load goes on with a task unless it is stopped, and so with each of a list
abbrev pub unless_stopped : Load → Loading → Loading → Loading
unless_stopped Loaded new old = new
unless_stopped (Stopped refusal place) new old = old

abbrev pub next_task : Loading → Task → Loading
next_task loading task = unless_stopped loading.answer (made loading.book task) loading

abbrev pub carried_on : Loading → List Task → Loading
carried_on loading [] = loading
carried_on loading (task ∷ tasks) = carried_on (next_task loading task) tasks

-- "Loading checks the slice length of ground 1, then 11, 12, then makes a fresh book", and makes the calls of the file;
-- "1, 11 and 12 leave the book untouched"
unfoldable pub load_of : List ℕ → List ℕ → Loading
load_of ws file =
    accepted
    (header_refusal (length ws) file)
    (carried_on (loading_of Loaded (fresh_book ws)) (tasks_of file))
    (loading_of (Stopped (header_refusal (length ws) file) Header) ws)

abbrev pub load_answer : List ℕ → List ℕ → Load
load_answer ws file = (load_of ws file).answer

-- document 01's numbers for the answer
abbrev pub load_numbers : List ℕ → List ℕ → Numbers
load_numbers ws file = numbers_of (load_answer ws file)

abbrev pub load_book : List ℕ → List ℕ → List ℕ
load_book ws file = (load_of ws file).book
