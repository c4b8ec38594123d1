-- Laws of tests that every place passes. Assumes nothing.
use mathlib.Core.Bool.{Bool, true, false, true≢false}
use mathlib.Core.Logic.{⊎_elim}
use mathlib.Core.Path.{◌≡◌, ap, ◌∙◌, refl, sym}
use Prim.Native.Nat.{ℕ, ◌<◌, zero, suc, ◌+◌}
use native.Mathlib.Nat.{eq-or-lt_of_le}
use native.Mathlib.Numerals.{add-one}
use native.Mathlib.Omega.{arith}
use Rattle.std.proofs.lemmas.Bool.{and_from, and_parts}
use Rattle.book_words.specs.Soundness.{all_below}

pub every-at : (n : ℕ) (test : ℕ → Bool) → all_below n test ≡ true → (k : ℕ) → k < n → test k ≡ true
every-at zero test e k h = let z : ⊥ = omega arith in absurd z
every-at (suc n) test e k h =
    let parts = and_parts (all_below n test) (test n) e in
    ⊎_elim
    (λ (s : suc k ≡ suc n). let here : k ≡ n = omega arith in ap test here ∙ parts.1)
    (λ (l : suc k < suc n). every-at n test parts.0 k (omega arith))
    (eq-or-lt_of_le h)

pub every : (n : ℕ) (test : ℕ → Bool) → ((k : ℕ) → k < n → test k ≡ true) → all_below n test ≡ true
every zero test all = refl
every (suc n) test all = and_from (all_below n test) (test n) (every n test (λ k h. all k (omega arith))) (all n (omega arith))

-- one place that fails the test
pub every-not : (n : ℕ) (test : ℕ → Bool) (k : ℕ) → k < n → test k ≡ false → all_below n test ≡ false
every-not n test k h e = go (all_below n test) refl
  where
    go : (b : Bool) → all_below n test ≡ b → all_below n test ≡ false
    go true p = absurd (true≢false (sym (every-at n test p k h) ∙ e))
    go false p = p

-- one place more, as the code counts
pub every-next : (k : ℕ) (test : ℕ → Bool) → all_below k test ≡ true → test k ≡ true → all_below (k + 1) test ≡ true
every-next k test e h = rw add-one (and_from (all_below k test) (test k) e h)
