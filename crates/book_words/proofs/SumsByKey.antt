-- Sums over two lists of places, and sums by keys. Assumes nothing.
use mathlib.Core.Bool.{cond}
use mathlib.Core.Logic.{⊎_elim}
use mathlib.Core.Path.{◌≡◌, refl, sym, ◌∙◌}
use Prim.Native.Nat.{ℕ, zero, suc, ◌+◌, ◌≤◌, ◌<◌}
use native.Mathlib.Nat.{eq-or-lt_of_le}
use native.Mathlib.Numerals.{add-one}
use native.Mathlib.Omega.{arith}
use lib.Dec.{eqb}
use borrow.Author.Tests.{eq-eqb, ne_eqb}
use Rattle.apportion.specs.Places.{sum_below}
use Rattle.apportion.proofs.Sums.{sum-cong, sum-add, sum-zero}

-- sums over two lists of places change their order
sum-swap : (m n : ℕ) (f : ℕ → ℕ → ℕ) → sum_below m (λ j. sum_below n (λ k. f j k)) ≡ sum_below n (λ k. sum_below m (λ j. f j k))
sum-swap zero n f = sym (sum-zero n (λ k. 0) (λ k h. refl))
sum-swap (suc m) n f =
    omega (arith, sum-swap m n f, sum-add n (λ k. sum_below m (λ j. f j k)) (λ k. f m k))

-- the first place apart from the others
pub sum_first : (n : ℕ) (f : ℕ → ℕ) → sum_below (n + 1) f ≡ f 0 + sum_below n (λ k. f (k + 1))
sum_first n f = rw add-one (go n)
  where
    go : (n : ℕ) → sum_below (suc n) f ≡ f 0 + sum_below n (λ k. f (k + 1))
    go zero = omega arith
    go (suc n) = rw add-one (omega (arith, go n))

-- what is added where a key is met is added once
key-once : (low m key x : ℕ) → low ≤ key → key < low + m → sum_below m (λ j. cond (eqb key (j + low)) x 0) ≡ x
key-once low zero key x above below = let z : ⊥ = omega arith in absurd z
key-once low (suc m) key x above below =
    ⊎_elim
    (λ (e : suc key ≡ low + suc m).
    let earlier = sum-zero m (λ j. cond (eqb key (j + low)) x 0) (λ j h. rw (ne_eqb key (j + low) (omega arith))) in
    rw (eq-eqb key (m + low) (omega arith)) (omega (arith, earlier)))
    (λ (l : suc key < low + suc m).
    rw (ne_eqb key (m + low) (omega arith)) (omega (arith, key-once low m key x above (omega arith))))
    (eq-or-lt_of_le below)

-- a sum by keys from `low` on is the sum: each place has one key
pub sum-by-key : (low m n : ℕ) (key f : ℕ → ℕ) → ((k : ℕ) → k < n → (low ≤ key k) × (key k < low + m))
    → sum_below m (λ j. sum_below n (λ k. cond (eqb (key k) (j + low)) (f k) 0)) ≡ sum_below n f
sum-by-key low m n key f inside =
    sum-swap m n (λ j k. cond (eqb (key k) (j + low)) (f k) 0)
    ∙ sum-cong n
    (λ k. sum_below m (λ j. cond (eqb (key k) (j + low)) (f k) 0))
    f
    (λ k h. key-once low m (key k) (f k) (inside k h).0 (inside k h).1)
