-- A slice that a loop fills from the front. Assumes nothing.
use mathlib.Core.List.{List}
use mathlib.Core.Logic.{⊎_elim}
use mathlib.Core.Path.{◌≡◌, ap, refl, sym, ◌∙◌}
use Prim.Native.Nat.{ℕ, zero, suc, ◌≤◌, ◌<◌, ◌+◌, ◌-◌}
use native.Mathlib.Omega.{arith}
use lib.ListN.{length, replicate, set, drop, get_or-append}
use lib.Seq.{ext_get_or}
use Rattle.std.proofs.lemmas.Bool.{cases_lt}
use Rattle.std.proofs.lemmas.List.{get_or-append_right, get_or-drop}
use Rattle.apportion.specs.Places.{at, list_below}
use Rattle.apportion.proofs.Lists.{filled, filled_at, filled_next, filled-length, list_at, list_length}

-- an array of zeros
pub zeros-at : (m k : ℕ) → at (replicate m 0) k ≡ 0
zeros-at zero k = refl
zeros-at (suc m) zero = refl
zeros-at (suc m) (suc k) = zeros-at m k

-- it is filled up to place k
pub record Filling (f : ℕ → ℕ) (old : List ℕ) (k : ℕ) (new : List ℕ) : Type 0 where
  pub inside : k ≤ length old
  pub so_far : new ≡ filled k f old

module _ {f : ℕ → ℕ} {old new : List ℕ} {k : ℕ} (s : Filling f old k new) where
  -- the next number is still the old one
  pub filling-here : k < length old → at new k ≡ at old k
  filling-here h = ap (λ (l : List ℕ). at l k) s.so_far ∙ filled_at k f old h

  pub filling-next : (x : ℕ) → k < length old → x ≡ f k → Filling f old (k + 1) (set new k x)
  filling-next x h e = record { inside = omega arith; so_far = rw (s.so_far, e) (filled_next k f old h) }

  -- what is filled, and what is not
  filling-front : (j : ℕ) → j < k → at new j ≡ f j
  filling-front j h =
      ap (λ (l : List ℕ). at l j) s.so_far ∙ get_or-append (list_below k f) (drop k old) 0 j (omega (arith, list_length k f)) ∙ list_at k f j h

  filling-rest : (j : ℕ) → k ≤ j → at new j ≡ at old j
  filling-rest j h =
      ap (λ (l : List ℕ). at l j) s.so_far
      ∙ get_or-append_right (list_below k f) (drop k old) k j 0 (list_length k f) h
      ∙ get_or-drop k old (j - k) 0
      ∙ ap (at old) (omega (arith, h))

  -- where g is f on what is filled and the old numbers past it, each number is that of g
  pub filling-all : (g : ℕ → ℕ) → ((j : ℕ) → j < k → f j ≡ g j) → ((j : ℕ) → k ≤ j → at old j ≡ g j) → (j : ℕ) → at new j ≡ g j
  filling-all g front rest j =
      ⊎_elim
      (λ (here : j < k). filling-front j here ∙ front j here)
      (λ (past : k ≤ j). filling-rest j past ∙ rest j past)
      (cases_lt j k)

  pub filling-past : ((j : ℕ) → k ≤ j → f j ≡ at old j) → new ≡ list_below (length old) f
  filling-past rest =
      ext_get_or 0 new (list_below (length old) f)
      (ap length s.so_far ∙ filled-length k f old s.inside ∙ sym (list_length (length old) f))
      (λ j h.
      filling-all f (λ i l. refl) (λ i l. sym (rest i l)) j
      ∙ sym (list_at (length old) f j (omega (arith, ap length s.so_far, filled-length k f old s.inside))))
