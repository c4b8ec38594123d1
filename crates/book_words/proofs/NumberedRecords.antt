-- The record of a number that is there. Assumes nothing.
use mathlib.Core.Bool.{true, cond, not}
use mathlib.Core.List.{List, ◌∷◌, ◌++◌}
use mathlib.Core.Path.{◌≡◌, ◌∙◌, ap}
use Prim.Native.Nat.{ℕ, ◌-◌}
use Rattle.std.proofs.Common.{Some}
use Rattle.apportion.specs.Grounds.{Ground, first_of}
use Rattle.book_words.specs.declared.records.Category.{Category}
use Rattle.book_words.specs.Book.{categories, category_of, unnumbered}
use Rattle.book_words.specs.Measures.{between}
use Rattle.book_words.specs.Inner.Steps.{numbered}
use Rattle.book_words.specs.Soundness.{sound}
use Rattle.apportion.proofs.Grounds.{read_past}
use Rattle.book_words.proofs.Booleans.{chosen-some}

-- the record of a number that is there, and a number that is there where a record is
module _ {R : Type 0} (count : ℕ) (record_at : ℕ → R) (number : ℕ) where
  pub numbered-there : between 1 count number ≡ true → numbered count record_at number ≡ Some (record_at (number - 1))
  numbered-there inside = rw inside

  pub numbered-some : {r : R} → numbered count record_at number ≡ Some r → (between 1 count number ≡ true) × (r ≡ record_at (number - 1))
  numbered-some = chosen-some (between 1 count number)

-- Grounds that look at the category of a number are those of a sound book, whatever is read where there is none: ground 1 does not
-- hold, and ground 2 comes before. `early` are the grounds between 1 and 2.
pub category-grounds : (ws : List ℕ) (number : ℕ) (early : List Ground) (rest : Category → List Ground) (other : Category) {read : Category} {n : ℕ}
    → sound ws ≡ true → read ≡ cond (between 1 (categories ws) number) (category_of ws number) other
    → n ≡ first_of (early ++ ((2, unnumbered (categories ws) number) ∷ rest read))
    → n ≡ first_of ((1, not (sound ws)) ∷ early ++ ((2, unnumbered (categories ws) number) ∷ rest (category_of ws number)))
category-grounds ws number early rest other fine given is =
    is
    ∙ ap (λ (k : Category). first_of (early ++ ((2, unnumbered (categories ws) number) ∷ rest k))) given
    ∙ read_past (category_of ws number) other early 2 rest (between 1 (categories ws) number)
    ∙ rw fine
