-- The grounds of a call that are tested first: what inner functions of the crates above promise. Assumes nothing.
use Rattle.std.specs.Prelude.{cond, List, [], ◌∷◌, ℕ, eqb}
use Rattle.apportion.specs.Grounds.{Ground}

-- the grounds before that of this number
abbrev pub grounds_before : ℕ → List Ground → List Ground
grounds_before number [] = []
grounds_before number (g ∷ gs) = cond (eqb number g.0) [] (g ∷ grounds_before number gs)
