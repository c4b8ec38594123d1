-- Sums, counts and lists over places. Places are counted from 0; places below n are 0, .., n - 1.
-- Assumes nothing.
use Rattle.std.specs.Prelude.{Bool, true, false, cond, List, [], ◌∷◌, ◌++◌, ℕ, zero, suc, ◌+◌, length, get_or}

-- f 0 + .. + f (n - 1)
abbrev pub sum_below : ℕ → (ℕ → ℕ) → ℕ
sum_below zero f = 0
sum_below (suc n) f = sum_below n f + f n

-- 1 where the test holds, 0 where it does not
abbrev pub one_if : Bool → ℕ
one_if true = 1
one_if false = 0

-- how many of the places below n pass the test
abbrev pub count_below : ℕ → (ℕ → Bool) → ℕ
count_below n test = sum_below n (λ k. one_if (test k))

-- the list of f 0, .., f (n - 1)
abbrev pub list_below : ℕ → (ℕ → ℕ) → List ℕ
list_below zero f = []
list_below (suc n) f = list_below n f ++ (f n ∷ [])

-- the list of f k for those places k below n that pass the test, in their order
abbrev pub kept_below : {A : Type 0} → ℕ → (ℕ → Bool) → (ℕ → A) → List A
kept_below zero test f = []
kept_below (suc n) test f = kept_below n test f ++ cond (test n) (f n ∷ []) []

-- the number at place k of a list; 0 past its end
abbrev pub at : List ℕ → ℕ → ℕ
at xs k = get_or xs k 0

-- the sum of a list
unfoldable pub sum_of : List ℕ → ℕ
sum_of xs = sum_below (length xs) (at xs)

-- a list's numbers at the places that pass the test, in their order
abbrev pub kept : (ℕ → Bool) → List ℕ → List ℕ
kept test xs = kept_below (length xs) test (at xs)
