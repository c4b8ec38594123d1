-- Pool × weight by the total, made bit by bit: what inner functions require and promise. Assumes nothing.
use Rattle.std.specs.Prelude.{◌≡◌, List, ℕ, ◌+◌, ◌*◌, ◌^◌, ◌≤◌, ◌<◌, length, get_or}
use Rattle.apportion.specs.declared.floors.Division.{Division}
use Rattle.apportion.specs.Places.{sum_of}
use Rattle.apportion.specs.Dividing.{most_places, most_pool, most_total}

-- the division at a bit of a list of them; 0 past its end
abbrev pub division_at : List Division → ℕ → Division
division_at divisions bit = get_or divisions bit (record { quotient = 0; remainder = 0 })

-- the list holds pool × 2 ^ bit by the total, for each bit that a weight within the total can have
pub record Powers (pool total : ℕ) (divisions : List Division) : Type 0 where
  pub long : length divisions ≡ 60
  pub whole : (bit : ℕ) → 2 ^ bit ≤ total
      → (division_at divisions bit).quotient * total + (division_at divisions bit).remainder ≡ pool * 2 ^ bit
  pub less : (bit : ℕ) → 2 ^ bit ≤ total → (division_at divisions bit).remainder < total

-- what a pool above 0, its weights and their total meet in an accepted division
pub record Accepted (pool total : ℕ) (weights : List ℕ) : Type 0 where
  pub some : 0 < total
  pub within : total ≤ most_total
  pub pool_within : pool ≤ most_pool
  pub few : length weights ≤ most_places
  pub total_is : total ≡ sum_of weights
