-- "The dividing rule" of document 01: a pool G goes to weights w of sum T. T is `sum_of weights`, and the weight of
-- place k is `at weights k`.
-- Assumes nothing.
use Rattle.std.specs.Prelude.{◌≡◌, Bool, ◌&&◌, ◌||◌, not, List, [], ◌∷◌, ◌⊎◌, ℕ, ◌+◌, ◌-◌, ◌*◌, ◌/◌, ◌%◌, ◌<◌, ltb, eqb, length}
use Rattle.apportion.specs.Places.{sum_below, one_if, count_below, list_below, at, sum_of}
use Rattle.apportion.specs.Grounds.{Ground, first_of, accepted}

-- "Each gets floor(G×w/T)."
unfoldable pub floor_at : ℕ → List ℕ → ℕ → ℕ
floor_at pool weights k = pool * at weights k / sum_of weights

-- the remainder of G×w by T
unfoldable pub remainder_at : ℕ → List ℕ → ℕ → ℕ
remainder_at pool weights k = pool * at weights k % sum_of weights

-- "The units left over"
unfoldable pub left_over : ℕ → List ℕ → ℕ
left_over pool weights = pool - sum_below (length weights) (floor_at pool weights)

-- "go one each to the largest remainders .., equal remainders to the earlier place": place j comes before place k
-- when its remainder is larger, or equal and j the earlier place
unfoldable pub before : (ℕ → ℕ) → ℕ → ℕ → Bool
before remainder j k = ltb (remainder k) (remainder j) || (eqb (remainder j) (remainder k) && ltb j k)

-- how many of n places come before place k
unfoldable pub rank : ℕ → (ℕ → ℕ) → ℕ → ℕ
rank n remainder k = count_below n (λ j. before remainder j k)

-- with so many units left over, place k gets one when fewer places than units come before it
unfoldable pub unit_for : ℕ → (ℕ → ℕ) → ℕ → ℕ → ℕ
unit_for n remainder left k = one_if (ltb (rank n remainder k) left)

-- the unit that place k gets of those left over: 1 or 0
unfoldable pub unit_at : ℕ → List ℕ → ℕ → ℕ
unit_at pool weights k = unit_for (length weights) (remainder_at pool weights) (left_over pool weights) k

-- the share of place k
unfoldable pub share_at : ℕ → List ℕ → ℕ → ℕ
share_at pool weights k = floor_at pool weights k + unit_at pool weights k

-- the shares of all places, in their order. With a pool of 0 there is nothing left over, and each gets 0
unfoldable pub divided : ℕ → List ℕ → List ℕ
divided pool weights = list_below (length weights) (share_at pool weights)

-- what the rule divides: T is above 0, or the pool is 0
abbrev pub Divisible : ℕ → List ℕ → Type 0
Divisible pool weights = (0 < sum_of weights) ⊎ (pool ≡ 0)

-- the most places of a division called by itself
abbrev pub most_places : ℕ
most_places = 256

-- the limit of "a pool .. over 10^18"
abbrev pub most_pool : ℕ
most_pool = 1_000_000_000_000_000_000

-- and of "T over 10^18"
abbrev pub most_total : ℕ
most_total = 1_000_000_000_000_000_000

-- "Called by itself the rule refuses .. : with 1 a share slice of another length than the weights or a length over
-- 256, then with 9 a pool above 0 whose T is 0, then with 10 a pool or T over 10^18." `places` is the number of weights,
-- `slots` that of the share slice
abbrev pub grounds : ℕ → ℕ → ℕ → ℕ → List Ground
grounds pool places slots T =
    (1, not (eqb slots places) || ltb most_places places)
    ∷ (9, ltb 0 pool && eqb T 0)
    ∷ (10, ltb most_pool pool || ltb most_total T)
    ∷ []

unfoldable pub refusal : ℕ → ℕ → ℕ → ℕ → ℕ
refusal pool places slots T = first_of (grounds pool places slots T)

-- the share slice after the call: a refusal writes no share
unfoldable pub shares_after : ℕ → List ℕ → List ℕ → List ℕ
shares_after pool weights shares =
    accepted (refusal pool (length weights) (length shares) (sum_of weights)) (divided pool weights) shares
