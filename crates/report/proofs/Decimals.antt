-- The digits of a number, and how many there are. Assumes nothing.
use Prim.Native.Nat.{ℕ, zero, suc, ◌+◌, ◌*◌, ◌≤◌, ◌<◌, ◌/◌, ◌%◌, ◌^◌, max}
use native.Mathlib.Nat.{pow-suc}
use native.Mathlib.Omega.{arith}
use mathlib.Core.Bool.{Bool, true, false, cond}
use mathlib.Core.Logic.{⊎_elim}
use mathlib.Core.Path.{◌≡◌, ap}
use mathlib.Core.List.{[], ◌∷◌, ◌++◌}
use borrow.Author.Tests.{lt-ltb, le-ltb}
use lib.Dec.{ltb}
use lib.ListN.{length, length-append}
use Rattle.std.proofs.lemmas.Bool.{cases_lt}
use Rattle.std.specs.Fmt as fmt
use Rattle.std.proofs.lemmas.Fmt.{AppendsLastDigit, decimal_from_appends, decimal_digit, decimal_step, decimal_nonempty, length-decimal-le}
use Rattle.report.specs.Text.{digit, decimal_within, decimal}

-- the digits are those that the library writes
appends : AppendsLastDigit decimal_within
appends = record { one = λ most n h. rw (lt-ltb n 10 h); more = λ most n h. rw (le-ltb n 10 h) }

pub is_decimal : (n : ℕ) → n < 2 ^ 64 → decimal n ≡ fmt.decimal n
unfolding decimal
is_decimal n fits =
    decimal_from_appends decimal_within appends 20 n fits (length-decimal-le 20 n (omega arith) (omega arith) fits)

-- a number below 10^k has at most k digits
pub digits-most : (k n : ℕ) → n < 10 ^ suc k → n < 2 ^ 64 → length (decimal n) ≤ suc k
digits-most k n h fits = rw (is_decimal n fits) (length-decimal-le (suc k) n (omega arith) h fits)

-- and one of at least 10^k more than k
ten_pos : (k : ℕ) → 1 ≤ 10 ^ k
ten_pos zero = omega arith
ten_pos (suc k) = rw pow-suc (omega (arith, ten_pos k))

digits-least : (k n : ℕ) → 10 ^ k ≤ n → n < 2 ^ 64 → suc k ≤ length (fmt.decimal n)
digits-least zero n h fits = decimal_nonempty n fits
digits-least (suc k) n h fits =
    let least : 10 ^ k * 10 ≤ n = rw pow-suc at h in
    let more : 10 ≤ n = omega (arith, ten_pos k) in
    rw (decimal_step n more fits, length-append) (omega (arith, digits-least k (n / 10) (omega arith) (omega arith)))

-- so a number has as many digits as the greatest power of ten that is not above it says; 0 has as many as 1
pub digits_by_power : (k n : ℕ) {m : ℕ} → n < 2 ^ 64 → m ≡ max n 1 → 10 ^ k ≤ m → m < 10 * 10 ^ k → k + 1 ≡ length (decimal n)
digits_by_power k n {m} fits is least most =
    let below : m < 10 ^ suc k = rw pow-suc (omega arith) in
    let counted : k + 1 ≡ length (fmt.decimal m) =
    omega (arith, digits-least k m least (omega arith), length-decimal-le (suc k) m (omega arith) below (omega arith)) in
    rw (is_decimal n fits)
    (⊎_elim
    (λ (none : n < 1). omega (arith, counted, ap length (decimal_digit n (omega arith)), ap length (decimal_digit m (omega arith))))
    (λ (some : 1 ≤ n). let same : m ≡ n = omega arith in rw same at counted)
    (cases_lt n 1))

-- any number has at most 20
fuel-most : (most n : ℕ) → length (decimal_within most n) ≤ most
fuel-most zero n = omega arith
fuel-most (suc most) n = go (ltb n 10) (fuel-most most (n / 10))
  where
    go : (t : Bool) → length (decimal_within most (n / 10)) ≤ most
        → length (cond t (digit n ∷ []) (decimal_within most (n / 10) ++ (digit (n % 10) ∷ []))) ≤ suc most
    go true shorter = omega arith
    go false shorter = rw length-append (omega (arith, shorter))

pub digits-few : (n : ℕ) → length (decimal n) ≤ 20
unfolding decimal
digits-few n = fuel-most 20 n
