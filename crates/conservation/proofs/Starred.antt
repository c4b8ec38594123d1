-- The starred cases, by one test that is computed over the whole table. Assumes nothing.
use mathlib.Core.Bool.{Bool, true, false, ◌&&◌, true≢false}
use mathlib.Core.List.{List, [], ◌∷◌}
use mathlib.Core.Path.{◌≡◌, refl, sym, ap₂}
use Prim.Native.Nat.{ℕ}
use lib.Dec.{eqb}
use lib.Ieee.{lt}
use borrow.Author.Tests.{eqb-true}
use Rattle.std.proofs.lemmas.Bool.{and_parts}
use Rattle.apportion.specs.Dividing.{refusal, shares_after, divided, floor_at, remainder_at, left_over, before, rank, unit_for, unit_at, share_at}
use Rattle.apportion.specs.Fractions.{nearest, added_by_rounding}
use Rattle.apportion.specs.Places.{sum_of}
use Rattle.workbook.specs.Doubles.{is_refused}
use Rattle.workbook.specs.Lines.{line_refusal}
use Rattle.book_words.specs.Book.{add_category, add_entry, add_element}
use Rattle.book_words.specs.Measures.{activity_of, standard_activity}
use Rattle.book_words.specs.Mixture.{passenger_below, mixes}
use Rattle.book_words.specs.Soundness.{header_fine, category_fine, entry_suits, entry_fine, measured, quoted_suits, element_suits, element_fine}
use Rattle.book_words.specs.Soundness.{sums_fine, shares_fine, categories_fine, entries_fine, elements_fine, passengers_fine, closings_fine, sound}
use Rattle.book_words.specs.declared.totals.Side.{Side}
use Rattle.book_words.specs.declared.totals.Side.TheVariants.{Operation as operation, Provision as provision}
use Rattle.book_words.specs.Totals.{all_unstruck, unstruck_of, shares_of, activities}
use Rattle.book_shares.specs.Closing.{close_refusal, close_with, close_book}
use Rattle.book_shares.specs.Shares.{divided_all, weights, part_at, closing_share}
use Rattle.book_shares.specs.Sums.{pool as pool_of, activity_among, passengers_by_mass}
use Rattle.book.specs.Calls.{cleared, fresh_refusal, fresh_book, open_refusal, open_reply, open_book, post_refusal, post_reply, post_book}
use Rattle.book.specs.Calls.{enrol_refusal, enrol_reply, enrol_book, quoted_amount, quote_refusal, quote_reply, quote_book}
use Rattle.book.specs.Lines.{line_reply, line_book}
use Rattle.conservation.specs.Conserved.{emissions}
use Rattle.conservation.specs.Tally.{closed_in}
use Rattle.conservation.specs.Starred.{reckoned, to_hand_out, Row, starred, expected, HoldsOn, Holds, EveryRow}

-- what two tests tell, each its own
each : {A B : Type 0} (a b : Bool) → (a ≡ true → A) → (b ≡ true → B) → a && b ≡ true → A × B
each a b first second e = let parts = and_parts a b e in (first parts.0, second parts.1)

-- two lists have the same numbers
abbrev same_list : List ℕ → List ℕ → Bool
same_list [] [] = true
same_list [] (y ∷ ys) = false
same_list (x ∷ xs) [] = false
same_list (x ∷ xs) (y ∷ ys) = eqb x y && same_list xs ys

same-list : (xs ys : List ℕ) → same_list xs ys ≡ true → xs ≡ ys
same-list [] [] e = refl
same-list [] (y ∷ ys) e = absurd (true≢false (sym e))
same-list (x ∷ xs) [] e = absurd (true≢false (sym e))
same-list (x ∷ xs) (y ∷ ys) e =
    let parts = each (eqb x y) (same_list xs ys) (eqb-true x y) (same-list xs ys) e in
    ap₂ ◌∷◌ parts.0 parts.1

-- the test of a row on a side, of a row, and of every row of a table
abbrev test_on : Row → Side → Bool
test_on r side = same_list (reckoned r.case side) (expected r side) && eqb (to_hand_out r.case side) (sum_of (expected r side))

abbrev test : Row → Bool
test r = test_on r operation && test_on r provision

abbrev test_rows : List Row → Bool
test_rows [] = true
test_rows (r ∷ rs) = test r && test_rows rs

-- what passes the test holds
holds_on : (r : Row) (side : Side) → test_on r side ≡ true → HoldsOn r side
holds_on r side =
    each _ _ (same-list (reckoned r.case side) (expected r side)) (eqb-true (to_hand_out r.case side) (sum_of (expected r side)))

holds : (r : Row) → test r ≡ true → Holds r
holds r = each (test_on r operation) (test_on r provision) (holds_on r operation) (holds_on r provision)

every-row : (rs : List Row) → test_rows rs ≡ true → EveryRow rs
every-row [] e = tt
every-row (r ∷ rs) e = each (test r) (test_rows rs) (holds r) (every-row rs) e

-- Every starred case holds: the test of the table computes to true.
pub starred-hold : EveryRow starred
unfolding nearest added_by_rounding refusal shares_after divided floor_at remainder_at left_over before rank unit_for unit_at share_at sum_of cleared fresh_refusal fresh_book
    add_category add_entry add_element activity_of standard_activity header_fine category_fine entry_suits entry_fine measured quoted_suits
    element_suits element_fine passenger_below mixes sums_fine shares_fine categories_fine entries_fine elements_fine passengers_fine closings_fine
    sound all_unstruck unstruck_of
    shares_of activities close_refusal close_with close_book divided_all weights part_at closing_share pool_of activity_among
    passengers_by_mass open_refusal open_reply open_book post_refusal post_reply post_book enrol_refusal enrol_reply enrol_book
    quoted_amount quote_refusal quote_reply quote_book emissions closed_in line_refusal line_reply line_book is_refused lt
starred-hold = every-row starred refl
