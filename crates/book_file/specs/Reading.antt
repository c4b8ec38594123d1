-- What is read of an input. Assumes nothing.
use Rattle.std.specs.Prelude.{ℕ, Result, Ok, Err}

-- how many bytes were read, where the input was read to its end or the buffer is full, or a read failed behind them
abbrev pub count_in : Result ℕ ℕ → ℕ
count_in (Ok count) = count
count_in (Err count) = count
