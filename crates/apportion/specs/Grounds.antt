-- "Grounds, in checking order". Assumes nothing.
use Rattle.std.specs.Prelude.{Bool, cond, List, [], ◌∷◌, ℕ, zero, suc, eqb}

-- a refusal number and its condition
abbrev pub Ground : Type 0
Ground = ℕ × Bool

-- the number of the first ground whose condition holds; 0, accepted, where none does
abbrev pub first_of : List Ground → ℕ
first_of [] = 0
first_of (g ∷ gs) = cond g.1 g.0 (first_of gs)

-- these grounds and one more, checked just after that of this number; last where there is none of it
abbrev pub checked_just_after : ℕ → Ground → List Ground → List Ground
checked_just_after number new [] = new ∷ []
checked_just_after number new (g ∷ gs) = cond (eqb number g.0) (g ∷ new ∷ gs) (g ∷ checked_just_after number new gs)

-- what an accepted call (number 0) leaves, and what a refused one leaves
abbrev pub accepted : {A : Type 0} → ℕ → A → A → A
accepted zero new old = new
accepted (suc n) new old = old
