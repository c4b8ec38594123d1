-- What is printed, as bytes of ASCII. Assumes nothing.
use Rattle.std.specs.Prelude.{ℕ, List, [], ◌∷◌, ◌++◌}
use Rattle.report.specs.Text.{line}

-- a line of numbers of which there may be none
unfoldable pub numbers_line : List ℕ → List ℕ
numbers_line [] = 10 ∷ []
numbers_line (n ∷ ns) = line n ns

-- "bad record "
unfoldable pub bad_record : List ℕ
bad_record = 98 ∷ 97 ∷ 100 ∷ 32 ∷ 114 ∷ 101 ∷ 99 ∷ 111 ∷ 114 ∷ 100 ∷ 32 ∷ []

-- the line of a bad record
unfoldable pub bad_line : ℕ → List ℕ
bad_line number = bad_record ++ numbers_line (number ∷ [])
