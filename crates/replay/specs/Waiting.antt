-- The bytes that wait in the output buffer. Assumes nothing.
use Rattle.std.specs.Prelude.{ℕ, cond, List, [], ◌∷◌, ◌++◌, ltb, length}

-- the waiting bytes after one more is put behind them; where they fill the buffer, they are written first
unfoldable pub put_byte : List ℕ → ℕ → List ℕ
put_byte bytes byte = cond (ltb (length bytes) 65_536) bytes [] ++ (byte ∷ [])

-- the waiting bytes after a text is put behind them
abbrev pub put : List ℕ → List ℕ → List ℕ
put bytes [] = bytes
put bytes (byte ∷ text) = put (put_byte bytes byte) text
