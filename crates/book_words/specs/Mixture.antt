-- Ground 14, and the rule of soundness that goes with it: "a passenger element that is weighed when an earlier one in its category is
-- not, or the reverse; a book that already holds such a mixture is not sound". Assumes nothing.
use Rattle.std.specs.Prelude.{Bool, false, not, ◌&&◌, ◌||◌, List, ℕ, zero, suc, eqb}
use Rattle.std.specs.Bool.{beq}
use Rattle.book_words.specs.declared.records.Element.{Element}
use Rattle.book_words.specs.Book.{element_at}
use Rattle.book_words.specs.Measures.{is_passenger, is_weighed}

-- some place below n passes the test
abbrev pub some_below : ℕ → (ℕ → Bool) → Bool
some_below zero test = false
some_below (suc n) test = some_below n test || test n

-- a passenger element in the category of this number
abbrev pub is_passenger_in : ℕ → Element → Bool
is_passenger_in category e = is_passenger e.code && eqb e.category category

-- such an element that is weighed or, where `weighed` is false, one that is not
abbrev pub is_such_passenger : ℕ → Bool → Element → Bool
is_such_passenger category weighed e = is_passenger_in category e && beq (is_weighed e.kg_per_head) weighed

-- one of the first n elements is such
unfoldable pub passenger_below : List ℕ → ℕ → ℕ → Bool → Bool
passenger_below ws n category weighed = some_below n (λ p. is_such_passenger category weighed (element_at ws p))

-- an element of this category, code and kg per head that comes behind the first n: it is a passenger element, and an earlier one in
-- its category is weighed where it is not, or the reverse
unfoldable pub mixes : List ℕ → ℕ → (category code kg_per_head : ℕ) → Bool
mixes ws n category code kg_per_head = is_passenger code && passenger_below ws n category (not (is_weighed kg_per_head))

-- the element at this place does so
abbrev pub mixed : List ℕ → ℕ → Bool
mixed ws place =
    mixes ws place (element_at ws place).category (element_at ws place).code (element_at ws place).kg_per_head
