-- Words after writes. Assumes nothing.
use mathlib.Core.List.{List, ◌++◌, [], ◌∷◌}
use mathlib.Core.Path.{◌≡◌, refl, ◌∙◌, ap, sym}
use Prim.Native.Nat.{ℕ, zero, suc, ◌-◌, ◌<◌, ◌≤◌, ◌+◌}
use native.Mathlib.Nat.{add-zero, add-suc, suc-add}
use native.Mathlib.Omega.{arith}
use lib.ListN.{length, set, length-set, drop}
use lib.Seq.{sets, get_or-set_other, get_or-set_same, get_or-append-add, get_or-drop}
use Rattle.apportion.specs.Places.{at, list_below}
use Rattle.apportion.proofs.Lists.{filled, list_length}

-- a position that none of so many words from `start` on stands at
abbrev pub Outside : ℕ → ℕ → ℕ → Type 0
Outside start count k = start ≤ k → k < start + count → ⊥

-- words are stored one after the other from `start` on: a word outside them stays as it was
pub sets-outside : (ws : List ℕ) (start : ℕ) (words : List ℕ) (k : ℕ) → Outside start (length words) k → at (sets ws start words) k ≡ at ws k
sets-outside ws start [] k out = refl
sets-outside ws start (w ∷ more) k out =
    sets-outside (set ws start w) (suc start) more k (λ a b. out (omega arith) (omega arith))
    ∙ get_or-set_other ws start k w 0 (λ e. out (omega arith) (omega arith))

-- each of them is read back
pub sets-inside : (ws : List ℕ) (start : ℕ) (words : List ℕ) (f : ℕ) → f < length words → start + length words ≤ length ws
    → at (sets ws start words) (start + f) ≡ at words f
sets-inside ws start [] f h room = let z : ⊥ = omega arith in absurd z
sets-inside ws start (w ∷ more) zero h room =
    rw add-zero
    (sets-outside (set ws start w) (suc start) more start (λ a b. omega arith) ∙ get_or-set_same ws start w 0 (omega arith))
sets-inside ws start (w ∷ more) (suc f) h room =
    rw (add-suc, ← suc-add) (sets-inside (set ws start w) (suc start) more f (omega arith) (omega (arith, length-set ws start w)))

-- A loop that stores them one by one: with the first i of them stored, storing the rest gives what storing all gives.
pub record Storing (words old : List ℕ) (start i : ℕ) (new : List ℕ) : Type 0 where
  pub inside : i ≤ length words
  pub same_length : length new ≡ length old
  pub so_far : sets new (start + i) (drop i words) ≡ sets old start words

-- past the part of a slice that is written anew the old words stand
pub front-past : (front old : List ℕ) (n k : ℕ) → length front ≡ n → n ≤ k → at (front ++ drop n old) k ≡ at old k
front-past front old n k long h =
    let there : length front + (k - n) ≡ k = omega arith in
    let back : n + (k - n) ≡ k = omega arith in
    ap (at (front ++ drop n old)) (sym there) ∙ get_or-append-add front (drop n old) (k - n) 0 ∙ get_or-drop n old (k - n) 0 ∙ ap (at old) back

pub filled-past : (n : ℕ) (f : ℕ → ℕ) (old : List ℕ) (k : ℕ) → n ≤ k → at (filled n f old) k ≡ at old k
filled-past n f old k = front-past (list_below n f) old n k (list_length n f)
