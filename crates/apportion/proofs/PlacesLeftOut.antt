-- A division over places of which some have weight 0 is the division over the others alone, in their order.
-- Assumes nothing.
use mathlib.Core.Path.{◌≡◌, refl, sym, ap, ◌∙◌}
use mathlib.Core.Bool.{Bool, true, false, cond}
use mathlib.Core.Logic.{⊎_elim}
use mathlib.Core.List.{List, [], ◌∷◌, ◌++◌, append-nil}
use Prim.Native.Nat.{ℕ, zero, suc, ◌+◌, ◌-◌, ◌<◌}
use native.Mathlib.Nat.{eq-or-lt_of_le, eq-zero-or-pos, add-zero}
use native.Mathlib.Numerals.{add-one}
use native.Mathlib.Omega.{arith}
use lib.Dec.{ltb}
use lib.ListN.{length, length-append, get_or-append}
use lib.Seq.{get_or_at}
use borrow.Author.Tests.{lt-ltb, le-ltb}
use Rattle.apportion.specs.Places.{sum_below, one_if, count_below, list_below, kept_below, at, sum_of, kept}
use Rattle.apportion.specs.Dividing.{floor_at, remainder_at, left_over, before, rank, unit_for, unit_at, share_at, divided, Divisible}
use Rattle.apportion.proofs.Sums.{order, sum_more}
use Rattle.apportion.proofs.Lists.{list_length, list_at}
use Rattle.apportion.proofs.UnitsByBound.{before-smaller}
use Rattle.apportion.proofs.FloorsAndUnits.{floor-none, remainder-none, unit-none, unit-of-none}

module _ (keep : ℕ → Bool) where
  -- place k, where it is kept, is this place among the kept ones
  abbrev among : ℕ → ℕ
  among k = count_below k keep

  among-order : (j k : ℕ) → keep j ≡ true → j < k → among j < among k
  among-order j k e l = let here : one_if (keep j) ≡ 1 = rw e in omega (arith, here, sum_more (suc j) k (λ i. one_if (keep i)) l)

  among-ltb : (j k : ℕ) → keep j ≡ true → keep k ≡ true → ltb (among j) (among k) ≡ ltb j k
  among-ltb j k ej ek =
      ⊎_elim
      (λ (l : j < k). rw (lt-ltb j k l, lt-ltb (among j) (among k) (among-order j k ej l)))
      (⊎_elim
      (λ (e : j ≡ k). let same : among j ≡ among k = ap among e in rw (le-ltb j k (omega arith), le-ltb (among j) (among k) (omega arith)))
      (λ (l : k < j). rw (le-ltb j k (omega arith), le-ltb (among j) (among k) (omega (arith, among-order k j ek l)))))
      (order j k)

  pub kept-length : (n : ℕ) (f : ℕ → ℕ) → length (kept_below n keep f) ≡ among n
  kept-length zero f = refl
  kept-length (suc n) f =
      length-append (kept_below n keep f) (cond (keep n) (f n ∷ []) []) ∙ go (keep n) (kept-length n f)
    where
      go : (b : Bool) → length (kept_below n keep f) ≡ among n → length (kept_below n keep f) + length (cond b (f n ∷ []) []) ≡ among n + one_if b
      go true rest = omega arith
      go false rest = omega arith

  pub kept_at : (n : ℕ) (f : ℕ → ℕ) (k : ℕ) → k < n → keep k ≡ true → at (kept_below n keep f) (among k) ≡ f k
  kept_at zero f k h e = let z : ⊥ = omega arith in absurd z
  kept_at (suc n) f k h e =
      ⊎_elim
      (λ (last : suc k ≡ suc n).
      let here : k ≡ n = omega arith in
      let test : keep n ≡ true = ap keep (sym here) ∙ e in
      rw (test, here) (get_or_at (kept_below n keep f) (f n) [] 0 (among n) (kept-length n f)))
      (λ (l : suc k < suc n).
      get_or-append (kept_below n keep f) (cond (keep n) (f n ∷ []) []) 0 (among k)
      (omega (arith, kept-length n f, among-order k n e (omega arith)))
      ∙ kept_at n f k (omega arith) e)
      (eq-or-lt_of_le h)

  kept-cong : (n : ℕ) (f g : ℕ → ℕ) → ((k : ℕ) → k < n → f k ≡ g k) → kept_below n keep f ≡ kept_below n keep g
  kept-cong zero f g same = refl
  kept-cong (suc n) f g same = rw (kept-cong n f g (λ k h. same k (omega arith)), same n (omega arith))

  -- a sum over the kept places alone, where the others add nothing
  pub sum_kept : (n : ℕ) (f g : ℕ → ℕ) → ((k : ℕ) → k < n → keep k ≡ true → f (among k) ≡ g k) → ((k : ℕ) → k < n → keep k ≡ false → g k ≡ 0)
      → sum_below (among n) f ≡ sum_below n g
  sum_kept zero f g same none = refl
  sum_kept (suc n) f g same none =
      go (keep n) refl (sum_kept n f g (λ k h. same k (omega arith)) (λ k h. none k (omega arith)))
    where
      go : (b : Bool) → keep n ≡ b → sum_below (among n) f ≡ sum_below n g → sum_below (among n + one_if (keep n)) f ≡ sum_below n g + g n
      go true e rest = rw (e, add-one) (omega (arith, same n (omega arith) e))
      go false e rest = rw (e, add-zero) (omega (arith, none n (omega arith) e))

  -- the list over the kept places alone
  pub list-kept : (n : ℕ) (f g : ℕ → ℕ) → ((k : ℕ) → k < n → keep k ≡ true → f (among k) ≡ g k) → list_below (among n) f ≡ kept_below n keep g
  list-kept zero f g same = refl
  list-kept (suc n) f g same = go (keep n) refl (list-kept n f g (λ k h. same k (omega arith)))
    where
      go : (b : Bool) → keep n ≡ b → list_below (among n) f ≡ kept_below n keep g
          → list_below (among n + one_if (keep n)) f ≡ kept_below n keep g ++ cond (keep n) (g n ∷ []) []
      go true e rest = rw (e, add-one, rest, same n (omega arith) e)
      go false e rest = rw (e, add-zero, rest, append-nil)

module _ (pool : ℕ) (weights : List ℕ) (keep : ℕ → Bool) (zeros : (k : ℕ) → k < length weights → keep k ≡ false → at weights k ≡ 0) where
  -- the weights that are kept
  abbrev others : List ℕ
  others = kept keep weights

  weight-same : (k : ℕ) → k < length weights → keep k ≡ true → at others (among keep k) ≡ at weights k
  weight-same k h e = kept_at keep (length weights) (at weights) k h e

  pub total-same : sum_of others ≡ sum_of weights
  unfolding sum_of
  total-same =
      rw (kept-length keep (length weights) (at weights))
      (sum_kept keep (length weights) (at others) (at weights) weight-same zeros)

  floor-same : (k : ℕ) → k < length weights → keep k ≡ true → floor_at pool others (among keep k) ≡ floor_at pool weights k
  unfolding floor_at
  floor-same k h e = rw (weight-same k h e, total-same)

  remainder-same : (k : ℕ) → k < length weights → keep k ≡ true → remainder_at pool others (among keep k) ≡ remainder_at pool weights k
  unfolding remainder_at
  remainder-same k h e = rw (weight-same k h e, total-same)

  left-same : left_over pool others ≡ left_over pool weights
  unfolding left_over
  left-same =
      rw (kept-length keep (length weights) (at weights))
      (ap (λ (m : ℕ). pool - m)
      (sum_kept keep (length weights) (floor_at pool others) (floor_at pool weights) floor-same
      (λ k h e. floor-none pool weights k (zeros k h e))))

  -- where place k has a remainder, no place without weight comes before it
  rank_same : (k : ℕ) → k < length weights → keep k ≡ true → 0 < remainder_at pool weights k
      → rank (length others) (remainder_at pool others) (among keep k) ≡ rank (length weights) (remainder_at pool weights) k
  unfolding rank before
  rank_same k h e some =
      rw (kept-length keep (length weights) (at weights))
      (sum_kept keep (length weights)
      (λ j. one_if (before (remainder_at pool others) j (among keep k)))
      (λ j. one_if (before (remainder_at pool weights) j k))
      (λ j h' e'. rw (remainder-same k h e, remainder-same j h' e', among-ltb keep j k e' e))
      (λ j h' e'. rw (before-smaller (remainder_at pool weights) j k (omega (arith, remainder-none pool weights j (zeros j h' e'), some)))))

  unit-same : Divisible pool weights → (k : ℕ) → k < length weights → keep k ≡ true → unit_at pool others (among keep k) ≡ unit_at pool weights k
  unfolding unit_at unit_for
  unit-same divisible k h e =
      ⊎_elim
      (λ (some : 0 < sum_of weights).
      ⊎_elim
      (λ (r : remainder_at pool weights k ≡ 0).
      unit-none pool others (rw total-same some) (among keep k) (remainder-same k h e ∙ r) ∙ sym (unit-none pool weights some k r))
      (λ (r : 0 < remainder_at pool weights k). rw (rank_same k h e r, left-same))
      (eq-zero-or-pos (remainder_at pool weights k)))
      (λ (none : pool ≡ 0). unit-of-none pool others none (among keep k) ∙ sym (unit-of-none pool weights none k))
      divisible

  -- Leaving out places of weight 0 leaves out their shares, and changes no other.
  pub divided-kept : Divisible pool weights → divided pool (kept keep weights) ≡ kept keep (divided pool weights)
  unfolding divided share_at
  divided-kept divisible =
      rw (kept-length keep (length weights) (at weights), list_length (length weights) (share_at pool weights))
      (list-kept keep (length weights) (share_at pool others) (share_at pool weights)
      (λ k h e. rw (floor-same k h e, unit-same divisible k h e))
      ∙ kept-cong keep (length weights) (share_at pool weights) (at (list_below (length weights) (share_at pool weights)))
      (λ k h. sym (list_at (length weights) (share_at pool weights) k h)))
