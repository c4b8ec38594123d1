-- Why a call is refused: the number of each ground, and what an answer says by it. Assumes nothing.
use Rattle.std.specs.Prelude.{Bool, List, [], ◌∷◌, ℕ, Result, Ok, Err}
use Rattle.apportion.specs.Grounds.{Ground}
use Rattle.apportion.specs.declared.refusing.Refusal.{Refusal}
use Rattle.apportion.specs.declared.refusing.Refusal.TheVariants.{Unfit, Unnumbered, Unknown, Closed, StillOpen, Unsuited, OutOfRange, Full, Indivisible, TooLarge, WrongHeader, Misplaced, WrongField, Mixed, WrongCell, ReversedSpan, ShortPairs}

-- "Grounds, in checking order" of document 01, and those of document 02
abbrev pub number_of : Refusal → ℕ
number_of Unfit = 1
number_of Unnumbered = 2
number_of Unknown = 3
number_of Closed = 4
number_of StillOpen = 5
number_of Unsuited = 6
number_of OutOfRange = 7
number_of Full = 8
number_of Indivisible = 9
number_of TooLarge = 10
number_of WrongHeader = 11
number_of Misplaced = 12
number_of WrongField = 13
number_of Mixed = 14
number_of WrongCell = 15
number_of ReversedSpan = 16
number_of ShortPairs = 17

-- the refusal number of an answer, by the number of each refusal: "An accepted call has 0 for its refusal number"
abbrev pub refusal_by : {A E : Type 0} → (E → ℕ) → Result A E → ℕ
refusal_by number (Ok answer) = 0
refusal_by number (Err refusal) = number refusal

abbrev pub refusal_in : {A : Type 0} → Result A Refusal → ℕ
refusal_in = refusal_by number_of

-- what an answer has beside its refusal number; "A refusal returns its number with zeros", which are given here
abbrev pub value_in : {A : Type 0} → A → Result A Refusal → A
value_in zeros (Ok answer) = answer
value_in zeros (Err refusal) = zeros

-- grounds by their refusals and their conditions, by the number of each refusal
abbrev pub grounds_by : {E : Type 0} → (E → ℕ) → List (E × Bool) → List Ground
grounds_by number [] = []
grounds_by number (g ∷ gs) = (number g.0, g.1) ∷ grounds_by number gs
