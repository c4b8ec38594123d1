-- "Little-endian" numbers in bytes. Assumes nothing.
use Rattle.std.specs.Prelude.{cond, List, ℕ, zero, suc, ◌+◌, ◌*◌, leb, length}
use Rattle.apportion.specs.Places.{at}

-- the number that the `width` bytes from a position on spell, the least significant first
abbrev pub little_endian : ℕ → List ℕ → ℕ → ℕ
little_endian zero bytes position = 0
little_endian (suc width) bytes position = at bytes position + 256 * little_endian width bytes (position + 1)

-- the number of `width` bytes that stands at a position; 0 where it runs past the end
unfoldable pub number_at : ℕ → List ℕ → ℕ → ℕ
number_at width bytes position = cond (leb (position + width) (length bytes)) (little_endian width bytes position) 0

abbrev pub u32_at : List ℕ → ℕ → ℕ
u32_at bytes position = number_at 4 bytes position

abbrev pub u64_at : List ℕ → ℕ → ℕ
u64_at bytes position = number_at 8 bytes position
