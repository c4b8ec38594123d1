-- "**Close** (category)." Assumes nothing.
use Rattle.std.specs.Prelude.{Bool, ◌||◌, ◌&&◌, not, cond, List, ◌∷◌, [], ℕ, ◌+◌, zero, suc, ltb, eqb}
use Rattle.apportion.specs.Grounds.{Ground, first_of, accepted}
use Rattle.book_words.specs.Book.{unnumbered, categories, category_of, has_closed, element_at, elements, put_shares, close_category}
use Rattle.book_words.specs.Soundness.{sound}
use Rattle.book_words.specs.declared.totals.Side.{Side}
use Rattle.book_words.specs.declared.totals.Side.TheVariants.{Operation as operation, Provision as provision}
use Rattle.book_words.specs.declared.records.Category.{Category}
use Rattle.book_shares.specs.Shares.{closing_share}
use Rattle.book_shares.specs.Sums.{Freight, Group, pool, activity_among, passengers_by_mass}

-- ground 9: "F+P is 0"
abbrev pub nothing_to_divide_by : List ℕ → ℕ → Bool
nothing_to_divide_by ws category = eqb (activity_among ws category Freight + passengers_by_mass ws category) 0

-- ground 9: "a B, operation or provision, is above 0 and its S is 0"
abbrev pub pool_without_elements : List ℕ → ℕ → ℕ → Bool
pool_without_elements ws category group =
    (ltb 0 (pool ws category group operation) || ltb 0 (pool ws category group provision))
    && eqb (activity_among ws category (Group group)) 0

-- `here` is the record of the category
abbrev pub close_grounds_in : List ℕ → ℕ → Category → List Ground
close_grounds_in ws category here =
    (1, not (sound ws))
    ∷ (2, unnumbered (categories ws) category)
    ∷ (4, has_closed here)
    ∷ (9, nothing_to_divide_by ws category || pool_without_elements ws category 1 || pool_without_elements ws category 2)
    ∷ []

abbrev pub close_grounds : List ℕ → ℕ → List Ground
close_grounds ws category = close_grounds_in ws category (category_of ws category)

unfoldable pub close_refusal : List ℕ → ℕ → ℕ
close_refusal ws category = first_of (close_grounds ws category)

-- the element at this place, where it is of the category, gets these two shares
abbrev pub give_shares : List ℕ → ℕ → ℕ → ℕ → ℕ → List ℕ
give_shares ws category place by_operation by_provision =
    cond (eqb (element_at ws place).category category) (put_shares ws place by_operation by_provision) ws

-- so do the elements at the first n places, one after the other
abbrev pub hand_out : ℕ → List ℕ → ℕ → (Side → ℕ → ℕ) → List ℕ
hand_out zero ws category share = ws
hand_out (suc n) ws category share =
    give_shares (hand_out n ws category share) category n (share operation n) (share provision n)

-- every element of the category gets its shares, and the category is closed
unfoldable pub close_with : List ℕ → ℕ → (Side → ℕ → ℕ) → List ℕ
close_with ws category share = close_category (hand_out (elements ws) ws category share) category

unfoldable pub close_book : List ℕ → ℕ → List ℕ
close_book ws category =
    accepted (close_refusal ws category) (close_with ws category (closing_share ws category)) ws
