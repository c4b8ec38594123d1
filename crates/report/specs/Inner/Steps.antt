-- The room of a refusal's line. Assumes nothing.
use Rattle.std.specs.Prelude.{ℕ}

-- the most bytes of the line of a refusal: the word's 7, three numbers of 20 digits, three spaces and the newline
abbrev pub refused_room : ℕ
refused_room = 71
