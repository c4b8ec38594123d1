-- Who gets one of the units left over, by a bound on the remainders, and how many there are. Over any numbers
-- `r 0, .., r (n - 1)` in the place of the remainders. Assumes nothing.
use mathlib.Core.Path.{◌≡◌, refl, sym, ap, ◌∙◌}
use mathlib.Core.Bool.{Bool, true, false, ◌&&◌, true≢false, and-true, and-false}
use mathlib.Core.Logic.{⊎_elim}
use Prim.Native.Nat.{ℕ, zero, suc, ◌+◌, ◌-◌, ◌≤◌, ◌<◌, min, zero-le}
use native.Mathlib.Nat.{le_refl, le_trans, eq-or-lt_of_le, zero-add}
use native.Mathlib.Omega.{arith}
use lib.Dec.{ltb, leb, eqb}
use borrow.Author.Tests.{lt-ltb, le-ltb, le-leb, lt-leb, eq-eqb, ne_eqb, ltb-true, ltb-false, leb-true, leb-false}
use Rattle.std.proofs.lemmas.Bool.{cases_lt}
use Rattle.apportion.specs.Places.{sum_below, one_if, count_below}
use Rattle.apportion.specs.Dividing.{before, rank, unit_for}
use Rattle.apportion.specs.Inner.Units.{reach, unit_by}
use Rattle.apportion.proofs.Sums.{order, sum-cong, sum-le, sum_lt, sum-add, sum-zero, one-le, sum-some}

module _ (r : ℕ → ℕ) (j k : ℕ) where
  pub before-larger : r k < r j → before r j k ≡ true
  unfolding before
  before-larger h = rw (lt-ltb (r k) (r j) h)

  pub before-smaller : r j < r k → before r j k ≡ false
  unfolding before
  before-smaller h = rw (le-ltb (r k) (r j) (omega arith), ne_eqb (r j) (r k) (omega arith))

  pub before-equal : r j ≡ r k → before r j k ≡ ltb j k
  unfolding before
  before-equal h = rw (le-ltb (r k) (r j) (omega arith), eq-eqb (r j) (r k) h)

-- the places below k among n that pass the test are those that pass among k
count-first : (n k : ℕ) (test : ℕ → Bool) → k ≤ n → count_below n (λ j. test j && ltb j k) ≡ count_below k test
count-first zero k test h = let z : k ≡ 0 = omega arith in ap (λ (i : ℕ). count_below i test) (sym z)
count-first (suc n) k test h =
    ⊎_elim
    (λ (e : k ≡ suc n).
    sum-cong (suc n) (λ j. one_if (test j && ltb j k)) (λ j. one_if (test j)) (λ j i. rw (lt-ltb j k (omega arith), and-true))
    ∙ ap (λ (i : ℕ). count_below i test) (sym e))
    (λ (l : k < suc n).
    let rest = count-first n k test (omega arith) in
    let last : one_if (test n && ltb n k) ≡ 0 = rw (le-ltb n k (omega arith), and-false) in
    omega arith)
    (eq-or-lt_of_le h)

-- a lower bound is reached by no fewer
pub reach-down : (n : ℕ) (r : ℕ → ℕ) (low high : ℕ) → low ≤ high → reach n r high ≤ reach n r low
reach-down n r low high h =
    sum-le n (λ k. one_if (leb high (r k))) (λ k. one_if (leb low (r k)))
    (λ k i. one-le (leb high (r k)) (leb low (r k)) (λ e. le-leb low (r k) (omega (arith, leb-true high (r k) e))))

module _ (n : ℕ) (r : ℕ → ℕ) (k : ℕ) where
  -- fewer places come before place k than reach its number, since place k itself does
  rank-reach : k < n → rank n r k < reach n r (r k)
  unfolding rank
  rank-reach h =
      sum_lt n (λ j. one_if (before r j k)) (λ j. one_if (leb (r k) (r j)))
      (λ j i. one-le (before r j k) (leb (r k) (r j)) (less j)) k h
      (rw (before-equal r k k refl, le-ltb k k (le_refl k), le-leb (r k) (r k) (le_refl (r k))) (le_refl 1))
    where
      less : (j : ℕ) → before r j k ≡ true → leb (r k) (r j) ≡ true
      less j e =
          ⊎_elim
          (λ (l : r j < r k). absurd (true≢false (sym e ∙ before-smaller r j k l)))
          (λ (l : r k ≤ r j). le-leb (r k) (r j) l)
          (cases_lt (r j) (r k))

  -- every place whose number is above that of place k comes before it
  pub reach-rank : reach n r (suc (r k)) ≤ rank n r k
  unfolding rank
  reach-rank =
      sum-le n (λ j. one_if (leb (suc (r k)) (r j))) (λ j. one_if (before r j k))
      (λ j i. one-le (leb (suc (r k)) (r j)) (before r j k) (λ e. before-larger r j k (leb-true (suc (r k)) (r j) e)))

  -- place k has those before it that are above its number, and those at its number that are earlier
  rank-at : k ≤ n → rank n r k ≡ reach n r (suc (r k)) + count_below k (λ j. eqb (r j) (r k))
  unfolding rank
  rank-at h =
      sum-cong n (λ j. one_if (before r j k)) (λ j. one_if (leb (suc (r k)) (r j)) + one_if (eqb (r j) (r k) && ltb j k)) (λ j i. parts j)
      ∙ sum-add n (λ j. one_if (leb (suc (r k)) (r j))) (λ j. one_if (eqb (r j) (r k) && ltb j k))
      ∙ ap (λ (m : ℕ). reach n r (suc (r k)) + m) (count-first n k (λ j. eqb (r j) (r k)) h)
    where
      parts : (j : ℕ) → one_if (before r j k) ≡ one_if (leb (suc (r k)) (r j)) + one_if (eqb (r j) (r k) && ltb j k)
      parts j =
          ⊎_elim
          (λ (l : r j < r k).
          rw (before-smaller r j k l, lt-leb (suc (r k)) (r j) (omega arith), ne_eqb (r j) (r k) (omega arith)))
          (⊎_elim
          (λ (e : r j ≡ r k).
          rw (before-equal r j k e, lt-leb (suc (r k)) (r j) (omega arith), eq-eqb (r j) (r k) e, zero-add))
          (λ (l : r k < r j).
          rw (before-larger r j k l, le-leb (suc (r k)) (r j) l, ne_eqb (r j) (r k) (omega arith))))
          (order (r j) (r k))

-- What comes before a place that comes before place k comes before place k too.
before-trans : (r : ℕ → ℕ) (i j k : ℕ) → before r i j ≡ true → before r j k ≡ true → before r i k ≡ true
before-trans r i j k first second =
    ⊎_elim
    (λ (l : r i < r j). absurd (true≢false (sym first ∙ before-smaller r i j l)))
    (λ (near : r j ≤ r i).
    ⊎_elim
    (λ (l : r j < r k). absurd (true≢false (sym second ∙ before-smaller r j k l)))
    (λ (far : r k ≤ r j).
    ⊎_elim (λ (e : r k ≡ r i). both (omega arith) (omega arith)) (λ (l : r k < r i). before-larger r i k l)
    (eq-or-lt_of_le (le_trans far near)))
    (cases_lt (r j) (r k)))
    (cases_lt (r i) (r j))
  where
    both : r i ≡ r j → r j ≡ r k → before r i k ≡ true
    both e e' =
        before-equal r i k (e ∙ e')
        ∙ lt-ltb i k
        (omega (
          arith,
          ltb-true i j (sym (before-equal r i j e) ∙ first),
          ltb-true j k (sym (before-equal r j k e') ∙ second),
        ))

-- a place that comes before another gets a unit where the other does
pub unit-before : (n : ℕ) (r : ℕ → ℕ) (left j k : ℕ) → before r j k ≡ true → unit_for n r left k ≤ unit_for n r left j
unfolding unit_for rank
unit-before n r left j k h =
    one-le (ltb (rank n r k) left) (ltb (rank n r j) left) (λ e. lt-ltb (rank n r j) left (omega (arith, ranks, ltb-true (rank n r k) left e)))
  where
    ranks : rank n r j ≤ rank n r k
    ranks =
        sum-le n (λ i. one_if (before r i j)) (λ i. one_if (before r i k))
        (λ i l. one-le (before r i j) (before r i k) (λ e. before-trans r i j k e h))

-- of the places at t the earlier get the units that are left for them, as long as there are units
equal-units : (r : ℕ → ℕ) (t units m : ℕ)
    → sum_below m (λ k. one_if (eqb (r k) t && ltb (count_below k (λ j. eqb (r j) t)) units)) ≡ min units (count_below m (λ j. eqb (r j) t))
equal-units r t units zero = omega arith
equal-units r t units (suc m) = go (eqb (r m) t) refl (ltb (count_below m (λ j. eqb (r j) t)) units) refl (equal-units r t units m)
  where
    earlier : ℕ
    earlier = count_below m (λ j. eqb (r j) t)

    served : ℕ
    served = sum_below m (λ k. one_if (eqb (r k) t && ltb (count_below k (λ j. eqb (r j) t)) units))

    go : (b : Bool) → eqb (r m) t ≡ b → (b' : Bool) → ltb earlier units ≡ b' → served ≡ min units earlier
        → served + one_if (eqb (r m) t && ltb earlier units) ≡ min units (earlier + one_if (eqb (r m) t))
    go true e true e' rest = rw (e, e') (omega (arith, ltb-true earlier units e'))
    go true e false e' rest = rw (e, e') (omega (arith, ltb-false earlier units e'))
    go false e b' e' rest = rw e (omega arith)

-- those that reach t are those above it and those at it
reach-at : (n : ℕ) (r : ℕ → ℕ) (t : ℕ) → reach n r t ≡ reach n r (suc t) + count_below n (λ j. eqb (r j) t)
reach-at n r t =
    sum-cong n (λ k. one_if (leb t (r k))) (λ k. one_if (leb (suc t) (r k)) + one_if (eqb (r k) t)) (λ k i. parts k)
    ∙ sum-add n (λ k. one_if (leb (suc t) (r k))) (λ k. one_if (eqb (r k) t))
  where
    parts : (k : ℕ) → one_if (leb t (r k)) ≡ one_if (leb (suc t) (r k)) + one_if (eqb (r k) t)
    parts k =
        ⊎_elim
        (λ (l : r k < t). rw (lt-leb t (r k) l, lt-leb (suc t) (r k) (omega arith), ne_eqb (r k) t (omega arith)))
        (⊎_elim
        (λ (e : r k ≡ t). rw (le-leb t (r k) (omega arith), lt-leb (suc t) (r k) (omega arith), eq-eqb (r k) t e))
        (λ (l : t < r k). rw (le-leb t (r k) (omega arith), le-leb (suc t) (r k) l, ne_eqb (r k) t (omega arith))))
        (order (r k) t)

-- By a bound t: place k gets a unit when its number is above t, and when it is t and fewer earlier places are at
-- t than units are left for them.
module _ (n : ℕ) (r : ℕ → ℕ) (left t : ℕ) (above : reach n r (suc t) ≤ left) (reached : left ≤ reach n r t) where
  -- how many places before place k are at t
  abbrev pub at_bound : ℕ → ℕ
  at_bound k = count_below k (λ j. eqb (r j) t)

  pub unit-above : (k : ℕ) → k < n → t < r k → unit_for n r left k ≡ 1
  unfolding unit_for
  unit-above k h l =
      rw (lt-ltb (rank n r k) left (omega (arith, rank-reach n r k h, reach-down n r (suc t) (r k) l)))

  pub unit-below : (k : ℕ) → r k < t → unit_for n r left k ≡ 0
  unfolding unit_for
  unit-below k l =
      rw (le-ltb (rank n r k) left (omega (arith, reach-rank n r k, reach-down n r (suc (r k)) t l)))

  pub unit-at : (k : ℕ) → k < n → r k ≡ t → unit_for n r left k ≡ one_if (ltb (at_bound k) (left - reach n r (suc t)))
  unfolding unit_for
  unit-at k h e = ap one_if (go (ltb (at_bound k) (left - reach n r (suc t))) refl)
    where
      place : rank n r k ≡ reach n r (suc t) + at_bound k
      place = rw e at (rank-at n r k (omega arith))

      go : (b : Bool) → ltb (at_bound k) (left - reach n r (suc t)) ≡ b → ltb (rank n r k) left ≡ ltb (at_bound k) (left - reach n r (suc t))
      go true test = let l = ltb-true (at_bound k) (left - reach n r (suc t)) test in rw (test, lt-ltb (rank n r k) left (omega (arith, place)))
      go false test = let l = ltb-false (at_bound k) (left - reach n r (suc t)) test in rw (test, le-ltb (rank n r k) left (omega (arith, place)))

  -- the unit as the code makes it
  pub unit-by : (k : ℕ) → k < n → unit_for n r left k ≡ unit_by (r k) t (at_bound k) (left - reach n r (suc t))
  unit-by k h =
      ⊎_elim
      (λ (l : r k < t). rw (unit-below k l, le-ltb t (r k) (omega arith), ne_eqb (r k) t (omega arith)))
      (⊎_elim
      (λ (e : r k ≡ t). rw (unit-at k h e, le-ltb t (r k) (omega arith), eq-eqb (r k) t e, zero-add))
      (λ (l : t < r k). rw (unit-above k h l, lt-ltb t (r k) l, ne_eqb (r k) t (omega arith))))
      (order (r k) t)

  units-by : sum_below n (unit_for n r left) ≡ left
  units-by =
      sum-cong n (unit_for n r left) (λ k. unit_by (r k) t (at_bound k) (left - reach n r (suc t))) unit-by
      ∙ sum-add n (λ k. one_if (ltb t (r k))) (λ k. one_if (eqb (r k) t && ltb (at_bound k) (left - reach n r (suc t))))
      ∙ omega (arith, equal-units r t (left - reach n r (suc t)) n, reach-at n r t)

-- every place reaches 0
pub reach-zero : (n : ℕ) (r : ℕ → ℕ) → reach n r 0 ≡ n
reach-zero zero r = refl
reach-zero (suc n) r = rw (le-leb 0 (r n) zero-le) (omega (arith, reach-zero n r))

-- no place reaches what all are below
pub reach-none : (n : ℕ) (r : ℕ → ℕ) (bound : ℕ) → ((k : ℕ) → k < n → r k < bound) → reach n r bound ≡ 0
reach-none n r bound below = sum-zero n (λ k. one_if (leb bound (r k))) (λ k h. rw (lt-leb bound (r k) (below k h)))

-- As many units are handed out as are left over, if there are no more of them than places.
pub units-sum : (n : ℕ) (r : ℕ → ℕ) (left : ℕ) → left ≤ n → sum_below n (unit_for n r left) ≡ left
units-sum n r left few =
    search-down (sum_below n r) (omega (arith, reach-none n r (suc (sum_below n r)) (λ k h. omega (arith, sum-some n r k h))))
  where
    search-down : (t : ℕ) → reach n r (suc t) ≤ left → sum_below n (unit_for n r left) ≡ left
    search-down zero above = units-by n r left 0 above (omega (arith, reach-zero n r))
    search-down (suc t) above = go (leb left (reach n r (suc t))) refl (search-down t)
      where
        go : (b : Bool) → leb left (reach n r (suc t)) ≡ b → (reach n r (suc t) ≤ left → sum_below n (unit_for n r left) ≡ left)
            → sum_below n (unit_for n r left) ≡ left
        go true e lower = units-by n r left (suc t) above (leb-true left (reach n r (suc t)) e)
        go false e lower = lower (omega (arith, leb-false left (reach n r (suc t)) e))
