-- A call on a book, and a list of them. Assumes nothing.
use Rattle.std.specs.Prelude.{Bool, true, false, List, [], ◌∷◌, ℕ, Option, Some, None, Result, Ok, Err}
use Rattle.apportion.specs.Refusals.{number_of}
use Rattle.apportion.specs.declared.refusing.Refusal.{Refusal}
use Rattle.book.specs.Calls.{fresh_book, open_reply, open_book, post_reply, post_book, strike_refusal, strike_book, enrol_reply, enrol_book, quote_reply, quote_book}
use Rattle.book.specs.Replies.{Reply, refusal_alone, reply_of}
use Rattle.book.specs.Lines.{line_reply, line_book}
use Rattle.book_shares.specs.Closing.{close_refusal, close_book}
use Rattle.conservation.specs.declared.Call.{Call}
use Rattle.conservation.specs.declared.Call.TheVariants.{Open, Post, Line, Strike, Enrol, Quote, Close}
use Rattle.conservation.specs.Tally.{Tally, empty_tally, feed}

-- what a call answers, and the book that it leaves
pub record Step : Type 0 where
  pub reply : Reply
  pub book : List ℕ

-- what an answer returns, for each of its cases: a call that appends no record has the number 0
abbrev pub step_reply_in : Result (Option ℕ) Refusal → Reply
step_reply_in (Ok (Some number)) = reply_of 0 number
step_reply_in (Ok None) = refusal_alone 0
step_reply_in (Err refusal) = refusal_alone (number_of refusal)

-- whether a call appends a record, whose number it returns: "fresh, strike and close return nothing more"
abbrev pub appends : Call → Bool
appends (Open kind) = true
appends (Post p) = true
appends (Line l) = true
appends (Strike entry) = false
appends (Enrol e) = true
appends (Quote q) = true
appends (Close category) = false

-- a call; the contract of `perform` is that it answers and leaves this
abbrev pub step : List ℕ → Call → Step
step ws (Open kind) = record { reply = open_reply ws kind; book = open_book ws kind }
step ws (Post p) = record { reply = post_reply ws p; book = post_book ws p }
step ws (Line l) = record { reply = line_reply ws l; book = line_book ws l }
step ws (Strike entry) = record { reply = refusal_alone (strike_refusal ws entry); book = strike_book ws entry }
step ws (Enrol e) = record { reply = enrol_reply ws e; book = enrol_book ws e }
step ws (Quote q) = record { reply = quote_reply ws q; book = quote_book ws q }
step ws (Close category) = record { reply = refusal_alone (close_refusal ws category); book = close_book ws category }

-- a book with the tally that is kept beside it
pub record Run : Type 0 where
  pub tally : Tally
  pub book : List ℕ

-- the tally is fed the call and its refusal number alone
abbrev pub next : Run → Call → Run
next run call =
    record {
      tally = feed run.tally call (step run.book call).reply.refusal;
      book = (step run.book call).book;
    }

-- "Each call works on the book that the one before it left"; "The list may have any length, also none."
abbrev pub after : Run → List Call → Run
after run [] = run
after run (call ∷ calls) = after (next run call) calls

-- "It starts from the book that an accepted fresh leaves."
abbrev pub run_of : List ℕ → List Call → Run
run_of ws calls = after (record { tally = empty_tally; book = fresh_book ws }) calls
