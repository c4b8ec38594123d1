-- Passengers of a category that are alike: laws of the rule of ground 14. Assumes nothing.
use mathlib.Core.Bool.{Bool, true, false, not, ◌&&◌, ◌||◌, beq, true≢false, or-true}
use mathlib.Core.List.{List}
use mathlib.Core.Logic.{⊎_elim, ◌⊎◌}
use mathlib.Core.Path.{◌≡◌, refl, sym, ap, ap₂, ◌∙◌}
use Prim.Native.Nat.{ℕ, zero, suc, ◌<◌, ◌≤◌}
use native.Mathlib.Nat.{eq-or-lt_of_le}
use native.Mathlib.Omega.{arith}
use lib.Dec.{eqb}
use borrow.Author.Tests.{not-true, eqb-true}
use Rattle.std.proofs.lemmas.Bool.{and_from, and_parts, and_right}
use Rattle.apportion.proofs.Sums.{order}
use Rattle.book_words.specs.declared.records.Element.{Element}
use Rattle.book_words.specs.Book.{elements, element_at, with_shares}
use Rattle.book_words.specs.Measures.{is_passenger, is_weighed}
use Rattle.book_words.specs.Mixture.{some_below, is_passenger_in, is_such_passenger, passenger_below, mixes, mixed}
use Rattle.book_words.specs.Soundness.{all_below, sound}
use Rattle.book_words.proofs.EveryPlace.{every-at}
use Rattle.book_words.proofs.SoundRecords.{sound-facts}

-- some place below n passes the test, or none does
some-here : (n : ℕ) (test : ℕ → Bool) (k : ℕ) → k < n → test k ≡ true → some_below n test ≡ true
some-here zero test k h e = let z : ⊥ = omega arith in absurd z
some-here (suc n) test k h e =
    ⊎_elim
    (λ (s : suc k ≡ suc n). let here : k ≡ n = omega arith in rw (ap test (sym here) ∙ e) (or-true (some_below n test)))
    (λ (l : suc k < suc n). rw (some-here n test k (omega arith) e))
    (eq-or-lt_of_le h)

some-none : (n : ℕ) (test : ℕ → Bool) → ((k : ℕ) → k < n → test k ≡ false) → some_below n test ≡ false
some-none zero test all = refl
some-none (suc n) test all = rw (some-none n test (λ k h. all k (omega arith)), all n (omega arith))

some-cong : (n : ℕ) (f g : ℕ → Bool) → ((k : ℕ) → k < n → f k ≡ g k) → some_below n f ≡ some_below n g
some-cong zero f g same = refl
some-cong (suc n) f g same = ap₂ ◌||◌ (some-cong n f g (λ k h. same k (omega arith))) (same n (omega arith))

-- what is no passengers' mixes with nothing
pub others-mix-not : (ws : List ℕ) (n category code kg_per_head : ℕ) → is_passenger code ≡ false → mixes ws n category code kg_per_head ≡ false
unfolding mixes
others-mix-not ws n category code kg_per_head none = rw none

module _ (ws ws' : List ℕ) (n : ℕ) where
  -- elements that are the same but for their shares mix alike
  module _ (same : (p : ℕ) → p < n → with_shares (element_at ws' p) 0 0 ≡ with_shares (element_at ws p) 0 0) where
    passengers-kept : (k : ℕ) → k ≤ n → (category : ℕ) (weighed : Bool) → passenger_below ws' k category weighed ≡ passenger_below ws k category weighed
    unfolding passenger_below
    passengers-kept k h category weighed =
        some-cong k (λ p. is_such_passenger category weighed (element_at ws' p)) (λ p. is_such_passenger category weighed (element_at ws p))
        (λ p i. ap (is_such_passenger category weighed) (same p (omega arith)))

    pub mixes-kept : (k : ℕ) → k ≤ n → (category code kg_per_head : ℕ) → mixes ws' k category code kg_per_head ≡ mixes ws k category code kg_per_head
    unfolding mixes
    mixes-kept k h category code kg_per_head = ap (λ (b : Bool). is_passenger code && b) (passengers-kept k h category (not (is_weighed kg_per_head)))

    pub mixed-kept : (k : ℕ) → k < n → mixed ws' k ≡ mixed ws k
    mixed-kept k h =
        ap (λ (e : Element). mixes ws' k e.category e.code e.kg_per_head) (same k h)
        ∙ mixes-kept k (omega arith) (element_at ws k).category (element_at ws k).code (element_at ws k).kg_per_head

-- two that are weighed, or not, alike
alike : (a b : Bool) → beq a b ≡ true → a ≡ b
alike true true e = refl
alike false false e = refl
alike true false e = absurd (true≢false (sym e))
alike false true e = absurd (true≢false (sym e))

unlike : (a b : Bool) → beq a b ≡ false → beq a (not b) ≡ true
unlike true true e = absurd (true≢false e)
unlike false false e = absurd (true≢false e)
unlike true false e = refl
unlike false true e = refl

not_alike : (a b : Bool) → beq a (not b) ≡ not (beq a b)
not_alike true true = refl
not_alike true false = refl
not_alike false true = refl
not_alike false false = refl

-- where none of the first n elements is of the category's passengers, none mixes behind them
pub none-mixes : (ws : List ℕ) (category n code kg_per_head : ℕ) → all_below n (λ p. not (is_passenger_in category (element_at ws p))) ≡ true
    → mixes ws n category code kg_per_head ≡ false
unfolding mixes passenger_below
none-mixes ws category n code kg_per_head none =
    and_right (is_passenger code) _
    (some-none n (λ p. is_such_passenger category (not (is_weighed kg_per_head)) (element_at ws p))
    (λ p h. rw (not-true (is_passenger_in category (element_at ws p)) (every-at n (λ q. not (is_passenger_in category (element_at ws q))) none p h))))

-- in a sound book the passengers of a category are all weighed, or all not
module _ (ws : List ℕ) (fine : sound ws ≡ true) (category : ℕ) where
  abbrev weighed_at : ℕ → Bool
  weighed_at p = is_weighed (element_at ws p).kg_per_head

  -- a later one that is otherwise weighed would mix
  later-mixes : (p q : ℕ) → p < q → is_passenger_in category (element_at ws p) ≡ true → is_passenger_in category (element_at ws q) ≡ true
      → beq (weighed_at p) (weighed_at q) ≡ false
      → mixed ws q ≡ true
  unfolding mixes passenger_below
  later-mixes p q later is-p is-q other =
      let r = element_at ws q in
      let here = and_parts (is_passenger r.code) (eqb r.category category) is-q in
      let earlier = and_from (is_passenger_in category (element_at ws p)) _ is-p (unlike (weighed_at p) (weighed_at q) other) in
      let below = some-here q (λ k. is_such_passenger category (not (weighed_at q)) (element_at ws k)) p later earlier in
      and_from (is_passenger r.code) (passenger_below ws q r.category (not (weighed_at q))) here.0
      (ap (λ (c : ℕ). passenger_below ws q c (not (weighed_at q))) (eqb-true r.category category here.1) ∙ below)

  later-alike : (p q : ℕ) → p < q → q < elements ws → is_passenger_in category (element_at ws p) ≡ true → is_passenger_in category (element_at ws q) ≡ true
      → weighed_at p ≡ weighed_at q
  later-alike p q later h is-p is-q = go (beq (weighed_at p) (weighed_at q)) refl
    where
      go : (b : Bool) → beq (weighed_at p) (weighed_at q) ≡ b → weighed_at p ≡ weighed_at q
      go true e = alike (weighed_at p) (weighed_at q) e
      go false e = absurd (true≢false (sym (later-mixes p q later is-p is-q e) ∙ (sound-facts ws fine).unmixed q h))

  pub passengers-alike : (p q : ℕ) → p < elements ws → q < elements ws
      → is_passenger_in category (element_at ws p) ≡ true → is_passenger_in category (element_at ws q) ≡ true
      → weighed_at p ≡ weighed_at q
  passengers-alike p q h i is-p is-q =
      ⊎_elim
      (λ (later : p < q). later-alike p q later i is-p is-q)
      (λ (m : (p ≡ q) ⊎ (q < p)).
      ⊎_elim (λ (e : p ≡ q). ap weighed_at e) (λ (later : q < p). sym (later-alike q p later h is-q is-p)) m)
      (order p q)

  -- so one of them tells of all
  module _ (place : ℕ) (h : place < elements ws) (is : is_passenger_in category (element_at ws place) ≡ true) where
    one-tells : (weighed : Bool) → passenger_below ws (elements ws) category weighed ≡ beq (weighed_at place) weighed
    unfolding passenger_below
    one-tells weighed = go (beq (weighed_at place) weighed) refl
      where
        go : (b : Bool) → beq (weighed_at place) weighed ≡ b → passenger_below ws (elements ws) category weighed ≡ beq (weighed_at place) weighed
        go true e = rw e (some-here (elements ws) (λ p. is_such_passenger category weighed (element_at ws p)) place h (and_from _ _ is e))
        go false e = rw e (some-none (elements ws) (λ p. is_such_passenger category weighed (element_at ws p)) (λ q i. other q i (is_passenger_in category (element_at ws q)) refl))
          where
            other : (q : ℕ) → q < elements ws → (b : Bool) → is_passenger_in category (element_at ws q) ≡ b → is_such_passenger category weighed (element_at ws q) ≡ false
            other q i false away = rw away
            other q i true here =
                and_right (is_passenger_in category (element_at ws q)) _ (ap (λ (w : Bool). beq w weighed) (passengers-alike q place i h here is) ∙ e)

    pub one-mixes : (code kg_per_head : ℕ) → is_passenger code ≡ true
        → not (beq (weighed_at place) (is_weighed kg_per_head)) ≡ mixes ws (elements ws) category code kg_per_head
    unfolding mixes
    one-mixes code kg_per_head known = rw known (sym (one-tells (not (is_weighed kg_per_head)) ∙ not_alike (weighed_at place) (is_weighed kg_per_head)))
