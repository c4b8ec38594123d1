-- Lists of what a function gives: the record of a number, one record changed, and sums over them. Assumes nothing.
use mathlib.Core.List.{List, [], ◌∷◌, ◌++◌}
use mathlib.Core.Logic.{◌⊎◌, inl, inr, ⊎_elim}
use mathlib.Core.Option.{none, some, some-injective, none-ne-some}
use mathlib.Core.Path.{◌≡◌, refl, sym, ap, ◌∙◌}
use Prim.Native.Nat.{ℕ, zero, suc, ◌+◌, ◌-◌, ◌≤◌, ◌<◌}
use native.Mathlib.Nat.{eq-or-lt_of_le}
use native.Mathlib.Numerals.{add-one}
use native.Mathlib.Omega.{arith}
use lib.ListN.{length, length-append}
use Rattle.std.proofs.lemmas.Bool.{cases_lt}
use Rattle.apportion.specs.Places.{sum_below}
use Rattle.conservation.specs.Conserved.{sum_from, sum_numbered}
use Rattle.conservation.specs.Tally.{numbered, changed_at}

-- the list of f 0, .., f (n - 1)
abbrev pub listing : {A : Type 0} → ℕ → (ℕ → A) → List A
listing zero f = []
listing (suc n) f = listing n f ++ (f n ∷ [])

-- it has n records
listing-length : {A : Type 0} (n : ℕ) (f : ℕ → A) → length (listing n f) ≡ n
listing-length zero f = refl
listing-length (suc n) f = omega (arith, length-append (listing n f) (f n ∷ []), listing-length n f)

-- functions that give the same below n list the same
listing-cong : {A : Type 0} (n : ℕ) (f g : ℕ → A) → ((k : ℕ) → k < n → f k ≡ g k) → listing n f ≡ listing n g
listing-cong zero f g same = refl
listing-cong (suc n) f g same = rw (listing-cong n f g (λ k h. same k (omega arith)), same n (omega arith))

-- one more, as the calls count
listing-next : {A : Type 0} (n : ℕ) (f : ℕ → A) → listing (n + 1) f ≡ listing n f ++ (f n ∷ [])
listing-next n f = rw add-one

-- the same records in as many places
pub listing-same : {A : Type 0} (n n' : ℕ) (f g : ℕ → A) → n' ≡ n → ((k : ℕ) → k < n → g k ≡ f k) → listing n f ≡ listing n' g
listing-same n n' f g e same = listing-cong n f g (λ k h. sym (same k h)) ∙ ap (λ (m : ℕ). listing m g) (sym e)

-- the same records and one more
pub listing-more : {A : Type 0} (n n' : ℕ) (f g : ℕ → A) (x : A) → n' ≡ n + 1 → ((k : ℕ) → k < n → g k ≡ f k) → g n ≡ x → listing n f ++ (x ∷ []) ≡ listing n' g
listing-more n n' f g x e same new =
    rw (listing-cong n f g (λ k h. sym (same k h)), ← new) (sym (listing-next n g) ∙ ap (λ (m : ℕ). listing m g) (sym e))

-- no record has the number 0
numbered-zero : {A : Type 0} (xs : List A) → numbered xs 0 ≡ none
numbered-zero [] = refl
numbered-zero (x ∷ xs) = refl

-- a record that is added has the next number
numbered-last : {A : Type 0} (xs : List A) (y : A) → numbered (xs ++ (y ∷ [])) (suc (length xs)) ≡ some y
numbered-last [] y = refl
numbered-last (x ∷ xs) y = numbered-last xs y

-- the records before it keep their numbers
numbered-early : {A : Type 0} (xs : List A) (y : A) (k : ℕ) → k ≤ length xs → numbered (xs ++ (y ∷ [])) k ≡ numbered xs k
numbered-early [] y zero h = refl
numbered-early [] y (suc k) h = let z : ⊥ = omega arith in absurd z
numbered-early (x ∷ xs) y zero h = refl
numbered-early (x ∷ xs) y (suc zero) h = refl
numbered-early (x ∷ xs) y (suc (suc k)) h = numbered-early xs y (suc k) (omega arith)

-- no record has a number past the last
numbered-past : {A : Type 0} (xs : List A) (k : ℕ) → length xs < k → numbered xs k ≡ none
numbered-past [] k h = refl
numbered-past (x ∷ xs) zero h = refl
numbered-past (x ∷ xs) (suc zero) h = let z : ⊥ = omega arith in absurd z
numbered-past (x ∷ xs) (suc (suc k)) h = numbered-past xs (suc k) (omega arith)

-- the records of a list have the numbers from 1 on, in their order
pub numbered-each : {A : Type 0} (xs : List A) (y : A) (zs : List A) → numbered (xs ++ (y ∷ zs)) (length xs + 1) ≡ some y
numbered-each [] y zs = refl
numbered-each (x ∷ xs) y zs = rw add-one (rw add-one at (numbered-each xs y zs))

-- the record of a number
pub numbered-at : {A : Type 0} (n : ℕ) (f : ℕ → A) (p : ℕ) → p < n → numbered (listing n f) (p + 1) ≡ some (f p)
numbered-at zero f p h = let z : ⊥ = omega arith in absurd z
numbered-at (suc n) f p h =
    ⊎_elim
    (λ (e : suc p ≡ suc n).
    let here : p + 1 ≡ suc (length (listing n f)) = omega (arith, listing-length n f) in
    ap (numbered (listing n f ++ (f n ∷ []))) here ∙ numbered-last (listing n f) (f n) ∙ ap (λ (q : ℕ). some (f q)) (omega arith))
    (λ (l : suc p < suc n).
    numbered-early (listing n f) (f n) (p + 1) (omega (arith, listing-length n f)) ∙ numbered-at n f p (omega arith))
    (eq-or-lt_of_le h)

-- a number that is not from 1 to n has no record
numbered-none : {A : Type 0} (n : ℕ) (f : ℕ → A) (k : ℕ) → (k < 1) ⊎ (n < k) → numbered (listing n f) k ≡ none
numbered-none n f k =
    ⊎_elim
    (λ (l : k < 1). let is_zero : k ≡ 0 = omega arith in ap (numbered (listing n f)) is_zero ∙ numbered-zero (listing n f))
    (λ (l : n < k). numbered-past (listing n f) k (omega (arith, listing-length n f)))

-- a record that is there has a number from 1 to n
pub numbered-some : {A : Type 0} (n : ℕ) (f : ℕ → A) (k : ℕ) (x : A) → numbered (listing n f) k ≡ some x → (1 ≤ k) × (k ≤ n) × (f (k - 1) ≡ x)
numbered-some n f k x e =
    ⊎_elim
    (λ (l : k < 1). absurd (missing (inl l)))
    (λ (low : 1 ≤ k).
    ⊎_elim
    (λ (l : n < k). absurd (missing (inr l)))
    (λ (high : k ≤ n). (low, high, there low high))
    (cases_lt n k))
    (cases_lt k 1)
  where
    missing : (k < 1) ⊎ (n < k) → ⊥
    missing out = none-ne-some x (sym (numbered-none n f k out) ∙ e)

    there : 1 ≤ k → k ≤ n → f (k - 1) ≡ x
    there low high =
        let back : k ≡ k - 1 + 1 = omega arith in
        some-injective (f (k - 1)) x (sym (numbered-at n f (k - 1) (omega arith)) ∙ ap (numbered (listing n f)) (sym back) ∙ e)

-- the last of the records is changed
changed-last : {A : Type 0} (change : A → A) (xs : List A) (y : A) → changed_at change (xs ++ (y ∷ [])) (suc (length xs)) ≡ xs ++ (change y ∷ [])
changed-last change [] y = refl
changed-last change (x ∷ xs) y = ap (λ (zs : List _). x ∷ zs) (changed-last change xs y)

-- one before the last is changed
changed-early : {A : Type 0} (change : A → A) (xs : List A) (y : A) (k : ℕ) → k ≤ length xs
    → changed_at change (xs ++ (y ∷ [])) k ≡ changed_at change xs k ++ (y ∷ [])
changed-early change [] y zero h = refl
changed-early change [] y (suc k) h = let z : ⊥ = omega arith in absurd z
changed-early change (x ∷ xs) y zero h = refl
changed-early change (x ∷ xs) y (suc zero) h = refl
changed-early change (x ∷ xs) y (suc (suc k)) h = ap (λ (zs : List _). x ∷ zs) (changed-early change xs y (suc k) (omega arith))

-- one record is changed
changed-at : {A : Type 0} (change : A → A) (n : ℕ) (f g : ℕ → A) (p : ℕ) → p < n → g p ≡ change (f p)
    → ((q : ℕ) → q < n → (q ≡ p → ⊥) → g q ≡ f q) → changed_at change (listing n f) (p + 1) ≡ listing n g
changed-at change zero f g p h new same = let z : ⊥ = omega arith in absurd z
changed-at change (suc n) f g p h new same =
    ⊎_elim
    (λ (e : suc p ≡ suc n).
    let here : p + 1 ≡ suc (length (listing n f)) = omega (arith, listing-length n f) in
    let is : p ≡ n = omega arith in
    ap (changed_at change (listing n f ++ (f n ∷ []))) here
    ∙ changed-last change (listing n f) (f n)
    ∙ rw (listing-cong n f g (λ q i. sym (same q (omega arith) (λ z. omega arith))), ap (λ (q : ℕ). change (f q)) (sym is) ∙ sym new ∙ ap g is))
    (λ (l : suc p < suc n).
    changed-early change (listing n f) (f n) (p + 1) (omega (arith, listing-length n f))
    ∙ rw (changed-at change n f g p (omega arith) new (λ q i ne. same q (omega arith) ne), same n (omega arith) (λ z. omega arith)))
    (eq-or-lt_of_le h)

-- the record of a number is changed
pub changed-number : {A : Type 0} (change : A → A) (n n' k : ℕ) (f g : ℕ → A) → n' ≡ n → 1 ≤ k → k ≤ n → g (k - 1) ≡ change (f (k - 1))
    → ((q : ℕ) → q < n → (q ≡ k - 1 → ⊥) → g q ≡ f q) → changed_at change (listing n f) k ≡ listing n' g
changed-number change n n' k f g e low high new same =
    let back : k ≡ k - 1 + 1 = omega arith in
    ap (changed_at change (listing n f)) back ∙ changed-at change n f g (k - 1) (omega arith) new same ∙ ap (λ (m : ℕ). listing m g) (sym e)

-- a record that is added is added to a sum with the next number
sum-last : {A : Type 0} (number : ℕ) (xs : List A) (y : A) (h : ℕ → A → ℕ) → sum_from number (xs ++ (y ∷ [])) h ≡ sum_from number xs h + h (number + length xs) y
sum-last number [] y h =
    let here : number + 0 ≡ number = omega arith in
    omega (arith, ap (λ (k : ℕ). h k y) here)
sum-last number (x ∷ xs) y h =
    let along : number + 1 + length xs ≡ number + suc (length xs) = omega arith in
    omega (arith, sum-last (number + 1) xs y h, ap (λ (k : ℕ). h k y) along)

-- a sum over the records with their numbers
pub sum-listing : {A : Type 0} (n : ℕ) (f : ℕ → A) (h : ℕ → A → ℕ) → sum_numbered (listing n f) h ≡ sum_below n (λ p. h (p + 1) (f p))
sum-listing zero f h = refl
sum-listing (suc n) f h =
    let here : 1 + length (listing n f) ≡ n + 1 = omega (arith, listing-length n f) in
    omega (arith, sum-last 1 (listing n f) (f n) h, sum-listing n f h, ap (λ (k : ℕ). h k (f n)) here)
