-- Laws of lists over places. Assumes nothing.
use mathlib.Core.Path.{◌≡◌, refl, sym, ap, ◌∙◌}
use mathlib.Core.Bool.{Bool}
use mathlib.Core.List.{List, [], ◌∷◌, ◌++◌, append_assoc, append-nil}
use mathlib.Core.Logic.{⊎_elim}
use Prim.Native.Nat.{ℕ, zero, suc, ◌+◌, ◌≤◌, ◌<◌}
use native.Mathlib.Nat.{eq-or-lt_of_le}
use native.Mathlib.Numerals.{add-one}
use native.Mathlib.Omega.{arith}
use lib.ListN.{replicate, length, get_or, drop, set, length-append, length-drop, drop_of_length-le, get_or-append, get_or-eq_default}
use lib.Seq.{get_or_at, drop-cons, set_at}
use Rattle.apportion.specs.Places.{sum_below, one_if, count_below, list_below, at, sum_of}
use mir.Val.{bool_byte}
use Rattle.std.specs.List.{sum_by}
use Rattle.std.proofs.lemmas.List.{replicate_more}
use Rattle.std.proofs.lemmas.List.Sums.{sum_by-cons}
use Rattle.apportion.proofs.Sums.{byte-one, sum-cong, sum-first}

pub list_length : (n : ℕ) (f : ℕ → ℕ) → length (list_below n f) ≡ n
list_length zero f = refl
list_length (suc n) f = omega (arith, length-append (list_below n f) (f n ∷ []), list_length n f)

pub list_at : (n : ℕ) (f : ℕ → ℕ) (k : ℕ) → k < n → at (list_below n f) k ≡ f k
list_at zero f k h = let z : ⊥ = omega arith in absurd z
list_at (suc n) f k h =
    ⊎_elim
    (λ (e : suc k ≡ suc n).
    let here : n ≡ k = omega arith in
    get_or_at (list_below n f) (f n) [] 0 k (list_length n f ∙ here) ∙ ap f here)
    (λ (l : suc k < suc n).
    get_or-append (list_below n f) (f n ∷ []) 0 k (omega (arith, list_length n f)) ∙ list_at n f k (omega arith))
    (eq-or-lt_of_le h)

pub list-past : (n : ℕ) (f : ℕ → ℕ) (k : ℕ) → n ≤ k → at (list_below n f) k ≡ 0
list-past n f k h = get_or-eq_default (list_below n f) 0 (omega (arith, list_length n f))

pub list-cong : (n : ℕ) (f g : ℕ → ℕ) → ((k : ℕ) → k < n → f k ≡ g k) → list_below n f ≡ list_below n g
list-cong zero f g same = refl
list-cong (suc n) f g same = rw (list-cong n f g (λ k h. same k (omega arith)), same n (omega arith))

pub list-sum : (n : ℕ) (f : ℕ → ℕ) → sum_of (list_below n f) ≡ sum_below n f
unfolding sum_of
list-sum n f = rw (list_length n f) (sum-cong n (at (list_below n f)) f (list_at n f))

pub list-zeros : (n : ℕ) → list_below n (λ k. 0) ≡ replicate n 0
list-zeros zero = refl
list-zeros (suc n) = rw (list-zeros n, replicate_more {X = ℕ} n 0, add-one)

-- a count over the numbers of a list, as the code makes it
pub count-by-place : (test : ℕ → Bool) (xs : List ℕ) → sum_by (λ x. bool_byte (test x)) xs ≡ count_below (length xs) (λ k. test (at xs k))
count-by-place test [] = refl
count-by-place test (x ∷ xs) =
    sum_by-cons (λ y. bool_byte (test y)) x xs
    ∙ omega (arith, count-by-place test xs, sum-first (length xs) (λ k. one_if (test (at (x ∷ xs) k))), byte-one (test x))

-- A slice that is being filled from the front holds the new numbers up to k, and the old ones from k on.
abbrev pub filled : ℕ → (ℕ → ℕ) → List ℕ → List ℕ
filled k f old = list_below k f ++ drop k old

pub filled-length : (k : ℕ) (f : ℕ → ℕ) (old : List ℕ) → k ≤ length old → length (filled k f old) ≡ length old
filled-length k f old h = omega (arith, length-append (list_below k f) (drop k old), list_length k f, length-drop k old)

pub filled_next : (k : ℕ) (f : ℕ → ℕ) (old : List ℕ) → k < length old → set (filled k f old) k (f k) ≡ filled (k + 1) f old
filled_next k f old h =
    rw (drop-cons old k 0 h, add-one)
    (set_at (list_below k f) (get_or old k 0) (drop (suc k) old) (f k) k (list_length k f)
    ∙ sym (append_assoc (list_below k f) (f k ∷ []) (drop (suc k) old)))

-- a slice that is filled to its end holds the new numbers alone
pub filled-whole : (k n : ℕ) (f : ℕ → ℕ) (old : List ℕ) → k ≡ n → length old ≡ n → filled k f old ≡ list_below n f
filled-whole k n f old e h =
    rw (e, drop_of_length-le old {i = n} (omega arith), append-nil)

-- the next number of a slice that is being filled is still the old one
pub filled_at : (k : ℕ) (f : ℕ → ℕ) (old : List ℕ) → k < length old → at (filled k f old) k ≡ at old k
filled_at k f old h =
    rw (drop-cons old k 0 h) (get_or_at (list_below k f) (get_or old k 0) (drop (suc k) old) 0 k (list_length k f))
