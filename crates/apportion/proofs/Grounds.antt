-- Laws of ordered grounds. A ground is named by its number: where others are put before or between, nothing here moves.
-- Assumes nothing.
use mathlib.Core.Bool.{Bool, cond, not, false, true, ◌&&◌, ◌||◌, true≢false}
use mathlib.Core.List.{List, [], ◌∷◌, ◌++◌}
use mathlib.Core.Path.{◌≡◌, refl, sym, ap, ◌∙◌}
use Prim.Native.Nat.{ℕ, suc, zero, ◌<◌}
use native.Mathlib.Omega.{arith}
use borrow.Author.Tests.{eq-eqb}
use lib.Dec.{eqb}
use Rattle.apportion.specs.Grounds.{accepted, Ground, first_of, checked_just_after}
use Rattle.apportion.specs.Inner.Grounds.{grounds_before}

pub or-none : (a b : Bool) → a || b ≡ false → (a ≡ false) × (b ≡ false)
or-none true b e = absurd (true≢false e)
or-none false b e = (refl, e)

-- an accepted call leaves the new, a refused one the old
pub accepted-new : {A : Type 0} (n : ℕ) (new old : A) → n ≡ 0 → accepted n new old ≡ new
accepted-new n new old e = rw e

pub refused-old : {A : Type 0} (n : ℕ) (new old : A) → (n ≡ 0 → ⊥) → accepted n new old ≡ old
refused-old zero new old ne = absurd (ne refl)
refused-old (suc n) new old ne = refl

-- where the first ground holds, it gives its number
pub stopped : {holds : Bool} (n rest : ℕ) → holds ≡ true → cond holds n rest ≡ n
stopped n rest e = rw e

-- one more ground decides nothing where it does not hold, wherever it is checked
pub checked-in-vain : (number : ℕ) (new : Ground) (gs : List Ground) → new.1 ≡ false → first_of (checked_just_after number new gs) ≡ first_of gs
checked-in-vain number new [] e = rw e
checked-in-vain number new (g ∷ gs) e = go (eqb number g.0) (checked-in-vain number new gs e)
  where
    go : (here : Bool) → first_of (checked_just_after number new gs) ≡ first_of gs
        → first_of (cond here (g ∷ new ∷ gs) (g ∷ checked_just_after number new gs)) ≡ first_of (g ∷ gs)
    go true later = rw e
    go false later = ap (λ (n : ℕ). cond g.1 g.0 n) later

-- the condition of the ground of this number; false where there is none
abbrev pub condition_of : ℕ → List Ground → Bool
condition_of number [] = false
condition_of number (g ∷ gs) = cond (eqb number g.0) g.1 (condition_of number gs)

-- the grounds from that of this number on
abbrev pub grounds_from : ℕ → List Ground → List Ground
grounds_from number [] = []
grounds_from number (g ∷ gs) = cond (eqb number g.0) (g ∷ gs) (grounds_from number gs)

-- every number is above 0
abbrev pub are_numbered : List Ground → Bool
are_numbered [] = true
are_numbered (g ∷ gs) = accepted g.0 false (are_numbered gs)

-- no ground of this number holds
abbrev pub never_given : ℕ → List Ground → Bool
never_given number [] = true
never_given number (g ∷ gs) = cond (eqb number g.0) (not g.1) true && never_given number gs

-- of one list behind another
pub never_both : (number : ℕ) (gs hs : List Ground) → never_given number gs ≡ true → never_given number hs ≡ true → never_given number (gs ++ hs) ≡ true
never_both number [] hs e f = f
never_both number (g ∷ gs) hs e f = go (cond (eqb number g.0) (not g.1) true) e (λ h. never_both number gs hs h f)
  where
    go : (b : Bool) → b && never_given number gs ≡ true → (never_given number gs ≡ true → never_given number (gs ++ hs) ≡ true)
        → b && never_given number (gs ++ hs) ≡ true
    go true h later = later h
    go false h later = h

-- then it is not the number of the first that holds
pub not-given : (number : ℕ) (gs : List Ground) → 0 < number → never_given number gs ≡ true → first_of gs ≡ number → ⊥
not-given number [] some none e = omega arith
not-given number (g ∷ gs) some none e = go g.0 g.1 none e (not-given number gs some)
  where
    rest : (b : Bool) → cond b true true && never_given number gs ≡ true → never_given number gs ≡ true
    rest true h = h
    rest false h = h

    go : (n : ℕ) (t : Bool) → cond (eqb number n) (not t) true && never_given number gs ≡ true → cond t n (first_of gs) ≡ number
        → (never_given number gs ≡ true → first_of gs ≡ number → ⊥) → ⊥
    go n true none e later = true≢false (sym none ∙ rw (eq-eqb number n (sym e)))
    go n false none e later = later (rest (eqb number n) none) e

-- where none holds, the condition of each number is false
pub none-holds : (gs : List Ground) → are_numbered gs ≡ true → first_of gs ≡ 0 → (number : ℕ) → condition_of number gs ≡ false
none-holds [] e none number = refl
none-holds (g ∷ gs) e none number = go g.0 g.1 e none (λ h z. none-holds gs h z number)
  where
    either_way : (b c : Bool) → c ≡ false → cond b false c ≡ false
    either_way true c f = refl
    either_way false c f = f

    go : (n : ℕ) (t : Bool) → accepted n false (are_numbered gs) ≡ true → cond t n (first_of gs) ≡ 0
        → (are_numbered gs ≡ true → first_of gs ≡ 0 → condition_of number gs ≡ false)
        → cond (eqb number n) t (condition_of number gs) ≡ false
    go zero t h z later = absurd (true≢false (sym h))
    go (suc n) true h z later = let no : ⊥ = omega arith in absurd no
    go (suc n) false h z later = either_way (eqb number (suc n)) (condition_of number gs) (later h z)

-- the grounds before that of a number decide where one of them holds, and else those from it on
pub decided : (number : ℕ) (gs : List Ground) → are_numbered gs ≡ true
    → first_of gs ≡ accepted (first_of (grounds_before number gs)) (first_of (grounds_from number gs)) (first_of (grounds_before number gs))
decided number [] e = refl
decided number (g ∷ gs) e = go (eqb number g.0) g.0 g.1 e (decided number gs)
  where
    first : ℕ
    first = first_of (grounds_before number gs)

    go : (b : Bool) (n : ℕ) (t : Bool) → accepted n false (are_numbered gs) ≡ true
        → (are_numbered gs ≡ true → first_of gs ≡ accepted first (first_of (grounds_from number gs)) first)
        → cond t n (first_of gs)
        ≡ accepted (first_of (cond b [] ((n, t) ∷ grounds_before number gs))) (first_of (cond b ((n, t) ∷ gs) (grounds_from number gs)))
        (first_of (cond b [] ((n, t) ∷ grounds_before number gs)))
    go true n t h later = refl
    go false zero t h later = absurd (true≢false (sym h))
    go false (suc n) true h later = refl
    go false (suc n) false h later = later h

pub decided-from : (number : ℕ) (gs : List Ground) → are_numbered gs ≡ true → first_of (grounds_before number gs) ≡ 0
    → first_of gs ≡ first_of (grounds_from number gs)
decided-from number gs e none = decided number gs e ∙ rw none

pub decided-before : (number : ℕ) (gs : List Ground) {n : ℕ} → are_numbered gs ≡ true → n ≡ first_of (grounds_before number gs) → (n ≡ 0 → ⊥) → n ≡ first_of gs
decided-before number gs e is some = is ∙ sym (decided number gs e ∙ refused-old _ _ _ (λ z. some (is ∙ z)))

-- grounds behind the same early ones
first_cong : (early gs hs : List Ground) → first_of gs ≡ first_of hs → first_of (early ++ gs) ≡ first_of (early ++ hs)
first_cong [] gs hs e = e
first_cong (g ∷ early) gs hs e = ap (λ (n : ℕ). cond g.1 g.0 n) (first_cong early gs hs e)

-- Where a record is read for a number, with something else where there is none, the ground of the number comes before those that
-- look at the record: it is as if the record were there.
pub read_past : {A : Type 0} (there other : A) (early : List Ground) (n : ℕ) (rest : A → List Ground) (b : Bool)
    → first_of (early ++ ((n, not b) ∷ rest (cond b there other))) ≡ first_of (early ++ ((n, not b) ∷ rest there))
read_past there other early n rest true = refl
read_past there other early n rest false = first_cong early ((n, true) ∷ rest other) ((n, true) ∷ rest there) refl

-- what holds before a call, and after it where it is accepted, holds after it: a refused one leaves all as it was
pub either : {A : Type 0} (P : A → Type 0) (n : ℕ) (new old : A) → ((n ≡ 0 → ⊥) → new ≡ old) → (n ≡ 0 → P new) → P old → P new
either P zero new old same made before = made refl
either P (suc n) new old same made before = rw (same (λ e. omega arith)) before
