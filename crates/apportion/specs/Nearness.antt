-- "A comparison with a fraction .. is made over whole numbers, both sides multiplied by its denominators, which are
-- above 0 wherever it is made." Assumes nothing.
use Rattle.std.specs.Prelude.{◌≡◌, ℕ, ◌+◌, ◌*◌, ◌%◌, ◌≤◌, ◌<◌}

-- the number x is less than `units` from the fraction n / d, both ways; it never holds where d is 0
pub record Within (units x n d : ℕ) : Type 0 where
  pub above : x * d < n + units * d
  pub below : n < x * d + units * d

-- the number x is at most half a unit from the fraction n / d, both ways, where d is above 0
pub record WithinHalf (x n d : ℕ) : Type 0 where
  pub above : 2 * (x * d) ≤ 2 * n + d
  pub below : 2 * n ≤ 2 * (x * d) + d

-- the number x is even where the fraction n / d is a whole number and a half, where d is above 0
abbrev pub EvenAtHalf : ℕ → ℕ → ℕ → Type 0
EvenAtHalf x n d = (k : ℕ) → 2 * n ≡ (2 * k + 1) * d → x % 2 ≡ 0
