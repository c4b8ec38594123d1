-- What the calls that append a record return. Assumes nothing.
use Rattle.std.specs.Prelude.{ℕ, Result, Ok, Err}
use Rattle.apportion.specs.Grounds.{accepted}
use Rattle.apportion.specs.Refusals.{number_of}
use Rattle.apportion.specs.declared.refusing.Refusal.{Refusal}

-- a refusal number, and the number of the new record; "A refusal returns its number with zeros"
pub record Reply : Type 0 where
  pub refusal : ℕ
  pub number : ℕ

-- a reply that is a refusal number alone, as a strike and a closing have it in a list of calls: "fresh, strike and close return
-- nothing more"; and as a line has it that its cells refuse
abbrev pub refusal_alone : ℕ → Reply
refusal_alone refusal = record { refusal = refusal; number = 0 }

-- "A refusal returns its number with zeros": the reply of a call that returns a record's number
abbrev pub reply_of : ℕ → ℕ → Reply
reply_of refusal number = record { refusal = refusal; number = accepted refusal number 0 }

-- what an answer returns, for each of its cases
abbrev pub reply_in : Result ℕ Refusal → Reply
reply_in (Ok number) = reply_of 0 number
reply_in (Err refusal) = refusal_alone (number_of refusal)
