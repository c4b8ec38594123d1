-- What ranges and tests say as numbers, above all those of ground 7. Assumes nothing.
use mathlib.Core.Bool.{true, Bool, ◌||◌, false, cond}
use mathlib.Core.Logic.{◌⊎◌, ⊎_elim}
use mathlib.Core.Path.{◌≡◌, refl}
use Prim.Native.Nat.{ℕ, ◌≤◌, ◌<◌, ◌*◌, ◌-◌}
use native.Mathlib.Nat.{mul-le-mul, eq-zero-or-pos}
use native.Mathlib.Omega.{arith}
use lib.Dec.{leb, eqb}
use borrow.Author.Tests.{leb-true, lt-leb, eqb-true, leb-false, eqb-false}
use Rattle.std.proofs.lemmas.Bool.{and_parts, and_right}
use Rattle.book_words.specs.Inner.Steps.{most_exact}
use Rattle.book_words.specs.Measures.{between, is_code, is_freight, is_passenger, is_amount, is_distance_in, is_hub, activity_of}

pub between-low : (low high n : ℕ) → between low high n ≡ true → low ≤ n
between-low low high n e = leb-true low n (and_parts (leb low n) (leb n high) e).0

pub between-high : (low high n : ℕ) → between low high n ≡ true → n ≤ high
between-high low high n e = leb-true n high (and_parts (leb low n) (leb n high) e).1

-- the place of a number that is there
pub place_inside : (count most number : ℕ) → count ≤ most → between 1 count number ≡ true → number - 1 < most
place_inside count most number few e = omega (arith, between-low 1 count number e, between-high 1 count number e)

-- a number that is not 0
pub above_zero : (n : ℕ) → eqb n 0 ≡ false → 0 < n
above_zero n e = ⊎_elim (λ (none : n ≡ 0). absurd (eqb-false n 0 e none)) (λ (l : 0 < n). l) (eq-zero-or-pos n)

-- a number that is not in a range
pub between-outside : (low high n : ℕ) → (n < low) ⊎ (high < n) → between low high n ≡ false
between-outside low high n =
    ⊎_elim
    (λ (l : n < low). rw (lt-leb low n l))
    (λ (h : high < n). and_right (leb low n) (leb n high) (lt-leb n high h))

pub code-most : (code : ℕ) → is_code code ≡ true → code ≤ 1000
code-most code e = go (is_freight code) refl e
  where
    go : (t : Bool) → is_freight code ≡ t → t || is_passenger code ≡ true → code ≤ 1000
    go true p h = omega (arith, leb-true code 2 p)
    go false p h = between-high 100 1000 code h

-- heads, and every amount
pub heads-most : (code amount : ℕ) → 2 < code → is_amount code amount ≡ true → amount ≤ 1_000_000
heads-most code amount p e = between-high 1 1_000_000 amount (rw (lt-leb code 2 p) at e)

pub amount-most : (code amount : ℕ) → is_amount code amount ≡ true → amount ≤ 1_000_000_000
amount-most code amount e = go (is_freight code) e
  where
    go : (t : Bool) → cond t (between 1 1_000_000_000 amount) (between 1 1_000_000 amount) ≡ true → amount ≤ 1_000_000_000
    go true h = between-high 1 1_000_000_000 amount h
    go false h = omega (arith, between-high 1 1_000_000 amount h)

pub distance_most : (kind distance : ℕ) → is_distance_in kind distance ≡ true → distance ≤ 40_000_000
distance_most kind distance e = go (is_hub kind) e
  where
    go : (t : Bool) → cond t (eqb distance 0) (between 1 40_000_000 distance) ≡ true → distance ≤ 40_000_000
    go true h = omega (arith, eqb-true distance 0 h)
    go false h = between-high 1 40_000_000 distance h

-- an activity in range is not capped
pub activity_small : (kind code amount distance : ℕ) → is_code code ≡ true → is_amount code amount ≡ true → is_distance_in kind distance ≡ true
    → activity_of kind code amount distance ≤ most_exact
unfolding activity_of
activity_small kind code amount distance known fine far = go (is_freight code) refl (is_hub kind)
  where
    go : (t : Bool) → is_freight code ≡ t → (h : Bool) → cond t (cond h amount (amount * distance)) (amount * code * distance) ≤ most_exact
    go true e true = omega (arith, amount-most code amount fine)
    go true e false = omega (arith, mul-le-mul (amount-most code amount fine) (distance_most kind distance far))
    go false e h =
        let heads = mul-le-mul (heads-most code amount (leb-false code 2 e) fine) (code-most code known) in
        omega (arith, mul-le-mul heads (distance_most kind distance far))
