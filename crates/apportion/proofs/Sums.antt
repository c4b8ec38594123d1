-- Laws of sums and counts over the places 0, .., n - 1. Assumes nothing.
use mathlib.Core.Path.{◌≡◌, refl, sym, ap}
use mathlib.Core.Bool.{Bool, true, false}
use mathlib.Core.Logic.{◌⊎◌, inl, inr, ⊎_elim}
use Prim.Native.Nat.{ℕ, zero, suc, ◌+◌, ◌*◌, ◌≤◌, ◌<◌, zero-le}
use native.Mathlib.Nat.{le_refl, eq-or-lt_of_le, mul-zero}
use native.Mathlib.Numerals.{add-one}
use native.Mathlib.Omega.{arith}
use mir.Val.{bool_byte}
pub use Rattle.std.proofs.lemmas.Bool.{cases_lt as cases_lt, cases_lt}
use Rattle.apportion.specs.Places.{sum_below, one_if, count_below}

-- one of two numbers is smaller, or they are equal
pub order : (a b : ℕ) → (a < b) ⊎ ((a ≡ b) ⊎ (b < a))
order a b =
    ⊎_elim
    (λ (l : a < b). inl l)
    (λ (s : b ≤ a). inr (⊎_elim (λ (e : b ≡ a). inl (sym e)) (λ (l : b < a). inr l) (eq-or-lt_of_le s)))
    (cases_lt a b)

pub sum-le : (n : ℕ) (f g : ℕ → ℕ) → ((k : ℕ) → k < n → f k ≤ g k) → sum_below n f ≤ sum_below n g
sum-le zero f g less = omega arith
sum-le (suc n) f g less = omega (arith, sum-le n f g (λ k h. less k (omega arith)), less n (omega arith))

pub sum-cong : (n : ℕ) (f g : ℕ → ℕ) → ((k : ℕ) → k < n → f k ≡ g k) → sum_below n f ≡ sum_below n g
sum-cong n f g same = omega (arith, sum-le n f g (λ k h. omega (arith, same k h)), sum-le n g f (λ k h. omega (arith, same k h)))

-- one place of the first sum is below its place of the second, and none is above
pub sum_lt : (n : ℕ) (f g : ℕ → ℕ) → ((k : ℕ) → k < n → f k ≤ g k) → (k : ℕ) → k < n → f k < g k → sum_below n f < sum_below n g
sum_lt zero f g less k h one = omega arith
sum_lt (suc n) f g less k h one =
    ⊎_elim
    (λ (e : suc k ≡ suc n).
    let here : k ≡ n = omega arith in
    omega (arith, sum-le n f g (λ j i. less j (omega arith)), ap f here, ap g here))
    (λ (l : suc k < suc n). omega (arith, sum_lt n f g (λ j i. less j (omega arith)) k (omega arith) one, less n (omega arith)))
    (eq-or-lt_of_le h)

pub sum-add : (n : ℕ) (f g : ℕ → ℕ) → sum_below n (λ k. f k + g k) ≡ sum_below n f + sum_below n g
sum-add zero f g = refl
sum-add (suc n) f g = omega (arith, sum-add n f g)

pub sum-mul : (n c : ℕ) (f : ℕ → ℕ) → sum_below n (λ k. c * f k) ≡ c * sum_below n f
sum-mul zero c f = sym (mul-zero c)
sum-mul (suc n) c f = omega (arith, sum-mul n c f)

-- a sum over more places is no less
pub sum_more : (m n : ℕ) (f : ℕ → ℕ) → m ≤ n → sum_below m f ≤ sum_below n f
sum_more m zero f h = let e : m ≡ 0 = omega arith in omega (arith, ap (λ (i : ℕ). sum_below i f) e)
sum_more m (suc n) f h =
    ⊎_elim
    (λ (e : m ≡ suc n). omega (arith, ap (λ (i : ℕ). sum_below i f) e))
    (λ (l : m < suc n). omega (arith, sum_more m n f (omega arith)))
    (eq-or-lt_of_le h)

-- the sum of nothing but zeros
pub sum-zero : (n : ℕ) (f : ℕ → ℕ) → ((k : ℕ) → k < n → f k ≡ 0) → sum_below n f ≡ 0
sum-zero zero f none = refl
sum-zero (suc n) f none = omega (arith, sum-zero n f (λ k h. none k (omega arith)), none n (omega arith))

pub one_at_most : (b : Bool) → one_if b ≤ 1
one_at_most true = omega arith
one_at_most false = omega arith

-- a test as a number, as the code makes it
pub byte-one : (b : Bool) → bool_byte b ≡ one_if b
byte-one true = refl
byte-one false = refl

pub byte_most : (b : Bool) → bool_byte b ≤ 1
byte_most b = rw byte-one (one_at_most b)

-- what passes the first test passes the second
pub one-le : (a b : Bool) → (a ≡ true → b ≡ true) → one_if a ≤ one_if b
one-le true b h = rw (h refl) (le_refl 1)
one-le false b h = zero-le

-- a count is at most the number of places
pub count_most : (n : ℕ) (test : ℕ → Bool) → count_below n test ≤ n
count_most zero test = omega arith
count_most (suc n) test = omega (arith, count_most n test, one_at_most (test n))

-- a sum is no less than what one of its places adds
pub sum-some : (n : ℕ) (f : ℕ → ℕ) (k : ℕ) → k < n → f k ≤ sum_below n f
sum-some n f k h = omega (arith, sum_more (suc k) n f h)

-- one place more, as the code counts
pub sum-next : (k : ℕ) (f : ℕ → ℕ) → sum_below (k + 1) f ≡ sum_below k f + f k
sum-next k f = rw add-one

-- a sum by its first place
pub sum-first : (n : ℕ) (f : ℕ → ℕ) → sum_below (suc n) f ≡ f 0 + sum_below n (λ k. f (suc k))
sum-first zero f = omega arith
sum-first (suc n) f = omega (arith, sum-first n f)
