-- Operations 1 to 9, 15 and 17: what a call of the book or a load answers, and what it leaves of the lent words. Assumes nothing.
use Rattle.std.specs.Prelude.{ℕ, cond, ◌||◌, List, [], ◌∷◌, eqb, take}
use Rattle.book_shares.specs.Intensities.{IntensityReply}
use Rattle.book_shares.specs.Intensities.{intensity_reply}
use Rattle.book.specs.declared.arguments.EnrolArguments.{EnrolArguments}
use Rattle.book.specs.declared.arguments.LineArguments.{LineArguments}
use Rattle.book.specs.declared.arguments.PostArguments.{PostArguments}
use Rattle.book.specs.declared.arguments.QuoteArguments.{QuoteArguments}
use Rattle.book.specs.Replies.{Reply}
use Rattle.book.specs.Statements.{StatementReply}
use Rattle.book.specs.Calls.{fresh_refusal, fresh_book}
use Rattle.book.specs.Statements.{statement_reply}
use Rattle.conservation.specs.declared.Call.{Call}
use Rattle.conservation.specs.declared.Call.TheVariants.{Open, Post, Line, Strike, Enrol, Quote, Close}
use Rattle.conservation.specs.Runs.{step}
use Rattle.book_file.specs.declared.answers.Numbers.{Numbers}
use Rattle.book_file.specs.Loading.{load_numbers, load_book}
use Rattle.workbook.specs.declared.cells.Cell.{Cell}
use Rattle.workbook.specs.declared.lines.Line.{Line as WorkbookLine}
use Rattle.replay.specs.declared.records.Words.{Words}

-- the arguments of a post, an enrolment, a quote and a line, in the order of documents 01 and 02
abbrev pub post_of : Words → PostArguments
post_of words =
    record {
      category = words.first;
      group = words.second;
      quantity = words.third;
      operation_factor = words.fourth;
      provision_factor = words.fifth;
    }

abbrev pub enrol_of : Words → EnrolArguments
enrol_of words =
    record {
      category = words.first;
      chain = words.second;
      code = words.third;
      amount = words.fourth;
      distance = words.fifth;
      kg_per_head = words.sixth;
    }

abbrev pub quote_of : Words → QuoteArguments
quote_of words =
    record {
      chain = words.first;
      adjust = words.second;
      mass = words.third;
      distance = words.fourth;
      operation_intensity = words.fifth;
      provision_intensity = words.sixth;
    }

abbrev line_of : Words → WorkbookLine Cell → LineArguments
line_of words line = record { category = words.first; group = words.second; line = line }

-- the call that the words of operations 2 to 7 and 17 ask for, 17 with the line of its cells
unfoldable pub call_of : Words → WorkbookLine Cell → Call
call_of words line =
    cond (eqb words.operation 2) (Open words.first)
    (cond (eqb words.operation 3) (Post (post_of words))
    (cond (eqb words.operation 4) (Strike words.first)
    (cond (eqb words.operation 5) (Enrol (enrol_of words))
    (cond (eqb words.operation 6) (Quote (quote_of words))
    (cond (eqb words.operation 7) (Close words.first)
    (Line (line_of words line)))))))

-- the numbers of a reply, of which strike and close have the refusal number alone
abbrev pub reply_count : ℕ → ℕ
reply_count operation = cond (eqb operation 4 || eqb operation 7) 1 2

abbrev pub reply_numbers : ℕ → Reply → List ℕ
reply_numbers operation reply = take (reply_count operation) (reply.refusal ∷ reply.number ∷ [])

-- those of a statement, of an intensity and of a load
abbrev pub statement_reply_numbers : StatementReply → List ℕ
statement_reply_numbers s = s.refusal ∷ s.elements ∷ s.waiting ∷ s.operation ∷ s.provision ∷ s.total ∷ []

abbrev pub intensity_numbers : IntensityReply → List ℕ
intensity_numbers i = i.refusal ∷ i.operation ∷ i.provision ∷ []

abbrev pub file_numbers : Numbers → List ℕ
file_numbers n = n.refusal ∷ n.table ∷ n.«record» ∷ []

-- what an operation answers, the numbers of its line, and the lent words that it leaves
pub record Answered : Type 0 where
  pub numbers : List ℕ
  pub book : List ℕ

abbrev pub answering : List ℕ → List ℕ → Answered
answering numbers book = record { numbers = numbers; book = book }

-- on the lent words, 15 with the bytes of its file and 17 with the line of its cells; a statement and an intensity leave the words as
-- they are
unfoldable pub answered : ℕ → Words → WorkbookLine Cell → List ℕ → List ℕ → Answered
answered operation words line ws file =
    cond (eqb operation 1) (answering (fresh_refusal ws ∷ []) (fresh_book ws))
    (cond (eqb operation 8) (answering (statement_reply_numbers (statement_reply ws words.first)) ws)
    (cond (eqb operation 9) (answering (intensity_numbers (intensity_reply ws words.first words.second)) ws)
    (cond (eqb operation 15) (answering (file_numbers (load_numbers ws file)) (load_book ws file))
    (answering (reply_numbers operation (step ws (call_of words line)).reply) (step ws (call_of words line)).book))))
