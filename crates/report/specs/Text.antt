-- Text as bytes of ASCII: numbers in decimal, lines of them, also behind a word, and the last line. Assumes nothing.
use Rattle.std.specs.Prelude.{ℕ, zero, suc, ◌+◌, ◌/◌, ◌%◌, cond, List, [], ◌∷◌, ◌++◌, ltb, eqb}
use Rattle.std.specs.List.{flat_map}
use Rattle.apportion.specs.Places.{one_if}

-- the byte of a digit: `0` is 48
abbrev pub digit : ℕ → ℕ
digit n = 48 + n

-- the decimal digits of a number that has at most `most` of them, the most significant first
abbrev pub decimal_within : ℕ → ℕ → List ℕ
decimal_within zero n = []
decimal_within (suc most) n = cond (ltb n 10) (digit n ∷ []) (decimal_within most (n / 10) ++ (digit (n % 10) ∷ []))

-- a number below 2^64 in decimal, with no zeros in front
unfoldable pub decimal : ℕ → List ℕ
decimal n = decimal_within 20 n

-- a number in decimal, behind a space
abbrev pub spaced_number : ℕ → List ℕ
spaced_number n = 32 ∷ decimal n

-- numbers in decimal, each behind a space
abbrev pub spaced : List ℕ → List ℕ
spaced numbers = flat_map spaced_number numbers

-- the end of a line: numbers, each behind a space, and the newline
abbrev pub line_end : List ℕ → List ℕ
line_end numbers = spaced numbers ++ (10 ∷ [])

-- a line of numbers with single spaces between, and its newline
unfoldable pub line : ℕ → List ℕ → List ℕ
line first rest = decimal first ++ line_end rest

-- a line that begins with a word
unfoldable pub word_line : List ℕ → List ℕ → List ℕ
word_line word numbers = word ++ line_end numbers

-- how many newlines a text has
abbrev pub newlines : List ℕ → ℕ
newlines [] = 0
newlines (b ∷ text) = one_if (eqb b 10) + newlines text

-- the last line of a text that ends in a newline: its longest end with one newline alone
abbrev pub last_line_of : List ℕ → List ℕ
last_line_of [] = []
last_line_of (b ∷ text) = cond (ltb 1 (newlines (b ∷ text))) (last_line_of text) (b ∷ text)
