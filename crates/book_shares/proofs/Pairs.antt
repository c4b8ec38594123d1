-- The words of pairs: pairs that a loop writes, and shares written over them. Assumes nothing.
use mathlib.Core.Bool.{cond}
use mathlib.Core.List.{List, [], ◌∷◌, ◌++◌, append_assoc}
use mathlib.Core.Logic.{⊎_elim}
use mathlib.Core.Path.{◌≡◌, refl, sym, ap, ◌∙◌}
use Prim.Native.Nat.{ℕ, zero, suc, ◌+◌, ◌*◌, ◌≤◌, ◌<◌}
use native.Mathlib.Nat.{eq-or-lt_of_le}
use native.Mathlib.Omega.{arith}
use lib.Dec.{ltb}
use lib.ListN.{length, set, length-append, replicate}
use lib.Seq.{get_or_at, set_at}
use borrow.Author.Tests.{lt-ltb, le-ltb}
use Rattle.std.proofs.lemmas.Bool.{cases_lt}
use Rattle.std.proofs.lemmas.List.{replicate-append-replicate}
use Rattle.apportion.specs.Places.{at}
use Rattle.book_words.specs.Book.{element_at}
use Rattle.book_words.specs.Totals.{share_of}
use Rattle.book_words.specs.declared.totals.Side.{Side}
use Rattle.book_words.specs.declared.totals.Side.TheVariants.{Operation as operation, Provision as provision}
use Rattle.book_shares.specs.Inner.Steps.{put_two}
use Rattle.book_shares.specs.Previews.{pair_at, pairs_below}

-- two words that are written behind a list's front
two-behind : (front rest : List ℕ) (x y a b n : ℕ) → length front ≡ n
    → put_two (front ++ (x ∷ y ∷ rest)) n a b ≡ front ++ (a ∷ b ∷ rest)
two-behind front rest x y a b n e =
    ap (λ (l : List ℕ). set l (n + 1) b) (set_at front x (y ∷ rest) a n e ∙ sym (append_assoc front (a ∷ []) (y ∷ rest)))
    ∙ set_at (front ++ (a ∷ [])) y rest b (n + 1) (omega (arith, length-append front (a ∷ [])))
    ∙ append_assoc front (a ∷ []) (b ∷ rest)

pub pairs-length : (n : ℕ) (pair : ℕ → Side → ℕ) → length (pairs_below n pair) ≡ 2 * n
pairs-length zero pair = refl
pairs-length (suc n) pair =
    omega (arith, length-append (pairs_below n pair) (pair n operation ∷ pair n provision ∷ []), pairs-length n pair)

pub pairs-cong : (n : ℕ) (f g : ℕ → Side → ℕ) → ((p : ℕ) → p < n → (s : Side) → f p s ≡ g p s) → pairs_below n f ≡ pairs_below n g
pairs-cong zero f g same = refl
pairs-cong (suc n) f g same =
    rw (pairs-cong n f g (λ p h. same p (omega arith)), same n (omega arith) operation, same n (omega arith) provision)

-- the last pair, with what stands behind it
last-pair : (n : ℕ) (pair : ℕ → Side → ℕ) (rest : List ℕ)
    → pairs_below (suc n) pair ++ rest ≡ pairs_below n pair ++ (pair n operation ∷ pair n provision ∷ rest)
last-pair n pair rest = append_assoc (pairs_below n pair) (pair n operation ∷ pair n provision ∷ []) rest

-- each pair, whatever stands behind them
pub pair-at : (n p : ℕ) (pair : ℕ → Side → ℕ) (rest : List ℕ) → p < n → (s : Side) → pair_at (pairs_below n pair ++ rest) p s ≡ pair p s
pair-at zero p pair rest h s = let z : ⊥ = omega arith in absurd z
pair-at (suc n) p pair rest h s =
    rw (last-pair n pair rest)
    (⊎_elim
    (λ (e : suc p ≡ suc n).
    let here : n ≡ p = omega arith in
    ap (λ (k : ℕ). pair_at (pairs_below n pair ++ (pair n operation ∷ pair n provision ∷ rest)) k s) (sym here) ∙ last s ∙ ap (λ (k : ℕ). pair k s) here)
    (λ (l : suc p < suc n). pair-at n p pair (pair n operation ∷ pair n provision ∷ rest) (omega arith) s)
    (eq-or-lt_of_le h))
  where
    last : (s : Side) → pair_at (pairs_below n pair ++ (pair n operation ∷ pair n provision ∷ rest)) n s ≡ pair n s
    last operation = get_or_at (pairs_below n pair) (pair n operation) (pair n provision ∷ rest) 0 (2 * n) (pairs-length n pair)
    last provision =
        let front = pairs_below n pair ++ (pair n operation ∷ []) in
        ap (λ (l : List ℕ). at l (2 * n + 1)) (sym (append_assoc (pairs_below n pair) (pair n operation ∷ []) (pair n provision ∷ rest)))
        ∙ get_or_at front (pair n provision) rest 0 (2 * n + 1) (omega (arith, length-append (pairs_below n pair) (pair n operation ∷ []), pairs-length n pair))

-- one pair is written anew
pub pair_put : (n p : ℕ) (f g : ℕ → Side → ℕ) (rest : List ℕ) → p < n → ((q : ℕ) → (q ≡ p → ⊥) → (s : Side) → f q s ≡ g q s)
    → put_two (pairs_below n f ++ rest) (2 * p) (g p operation) (g p provision) ≡ pairs_below n g ++ rest
pair_put zero p f g rest h same = let z : ⊥ = omega arith in absurd z
pair_put (suc n) p f g rest h same =
    rw (last-pair n f rest, last-pair n g rest)
    (⊎_elim
    (λ (e : suc p ≡ suc n).
    let here : p ≡ n = omega arith in
    two-behind (pairs_below n f) rest (f n operation) (f n provision) (g p operation) (g p provision) (2 * p) (omega (arith, pairs-length n f))
    ∙ rw (here, pairs-cong n f g (λ q l. same q (λ z. omega arith))))
    (λ (l : suc p < suc n).
    pair_put n p f g (f n operation ∷ f n provision ∷ rest) (omega arith) same
    ∙ rw (same n (λ z. omega arith) operation, same n (λ z. omega arith) provision))
    (eq-or-lt_of_le h))

-- pairs of zeros
pub pairs-zeros : (n : ℕ) → pairs_below n (λ p s. 0) ≡ replicate (2 * n) 0
pairs-zeros zero = refl
pairs-zeros (suc n) =
    let more : 2 * n + 2 ≡ 2 * suc n = omega arith in
    ap (λ (l : List ℕ). l ++ (0 ∷ 0 ∷ [])) (pairs-zeros n) ∙ replicate-append-replicate (2 * n) 2 0 ∙ ap (λ (k : ℕ). replicate k 0) more

-- what the elements at the first k places hold, and 0 behind them
abbrev pub held_before : List ℕ → ℕ → ℕ → Side → ℕ
held_before ws k p s = cond (ltb p k) (share_of s (element_at ws p)) 0

-- one more of them is written
pub held_more : (ws : List ℕ) (n k : ℕ) (rest : List ℕ) → k < n
    → put_two (pairs_below n (held_before ws k) ++ rest) (2 * k) (share_of operation (element_at ws k)) (share_of provision (element_at ws k))
    ≡ pairs_below n (held_before ws (k + 1)) ++ rest
held_more ws n k rest h =
    let here : (s : Side) → held_before ws (k + 1) k s ≡ share_of s (element_at ws k) = λ s. rw (lt-ltb k (k + 1) (omega arith)) in
    let other_kept : (q : ℕ) → (q ≡ k → ⊥) → (s : Side) → held_before ws k q s ≡ held_before ws (k + 1) q s =
    λ q other s.
    ⊎_elim
    (λ (l : q < k). rw (lt-ltb q k l, lt-ltb q (k + 1) (omega arith)))
    (λ (g : k ≤ q). ⊎_elim
    (λ (e : k ≡ q). absurd (other (sym e)))
    (λ (m : k < q). rw (le-ltb q k g, le-ltb q (k + 1) (omega arith)))
    (eq-or-lt_of_le g))
    (cases_lt q k) in
    rw (sym (here operation), sym (here provision)) (pair_put n k (held_before ws k) (held_before ws (k + 1)) rest h other_kept)
