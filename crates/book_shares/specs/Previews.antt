-- "**Seeing a closing before making it.**" The second lent slice is given here as the list of its words. Assumes nothing.
use Rattle.std.specs.Prelude.{Bool, cond, false, List, ◌∷◌, [], ◌++◌, ◌≡◌, ℕ, ◌+◌, ◌*◌, ◌≤◌, ◌<◌, zero, suc, eqb, ltb, length, drop}
use Rattle.apportion.specs.Grounds.{Ground, first_of, accepted, checked_just_after}
use Rattle.apportion.specs.Places.{at, sum_below}
use Rattle.book_words.specs.Book.{element_at, elements, is_closed, most_elements}
use Rattle.book_words.specs.declared.totals.Side.{Side}
use Rattle.book_words.specs.declared.totals.Side.TheVariants.{Operation as operation, Provision as provision}
use Rattle.book_words.specs.Totals.{share_of, unstruck_of}
use Rattle.book_shares.specs.Closing.{close_grounds, close_refusal, close_book}

-- the words of "256 pairs, operation and provision"
abbrev pub pair_words : ℕ
pair_words = 2 * most_elements

-- "a pair slice under 512 words"
abbrev pub short_of_pairs : List ℕ → Bool
short_of_pairs pairs = ltb (length pairs) pair_words

-- "It refuses with 17, checked just after 1, a pair slice under 512 words, and otherwise exactly as closing does.": 1, 17, 2, 4, 9
abbrev pub preview_grounds : List ℕ → List ℕ → ℕ → List Ground
preview_grounds ws pairs category = checked_just_after 1 (17, short_of_pairs pairs) (close_grounds ws category)

unfoldable pub preview_refusal : List ℕ → List ℕ → ℕ → ℕ
preview_refusal ws pairs category = first_of (preview_grounds ws pairs category)

-- what the element at this place of a book holds; "pairs past the last element are 0"
abbrev pub held_by : List ℕ → ℕ → Side → ℕ
held_by ws place side = cond (ltb place (elements ws)) (share_of side (element_at ws place)) 0

-- the words of the pairs at the first n places, one pair after the other
abbrev pub pairs_below : ℕ → (ℕ → Side → ℕ) → List ℕ
pairs_below zero pair = []
pairs_below (suc n) pair = pairs_below n pair ++ (pair n operation ∷ pair n provision ∷ [])

-- the pairs of a book
unfoldable pub pairs_of : List ℕ → List ℕ
pairs_of ws = pairs_below most_elements (held_by ws)

-- a pair slice with the pairs of a book; "words past the 512th are not touched"
abbrev pub pairs_written : List ℕ → List ℕ → List ℕ
pairs_written ws pairs = pairs_of ws ++ drop pair_words pairs

-- "Pair k is what element k would hold after closing"; "A refused preview writes no pair."
unfoldable pub preview_pairs : List ℕ → List ℕ → ℕ → List ℕ
preview_pairs ws pairs category =
    accepted (preview_refusal ws pairs category) (pairs_written (close_book ws category) pairs) pairs

-- pair k of a slice, "operation and provision", is that of the element at place k - 1
abbrev pub pair_at : List ℕ → ℕ → Side → ℕ
pair_at pairs place operation = at pairs (2 * place)
pair_at pairs place provision = at pairs (2 * place + 1)

-- what an accepted preview leaves in the pair slice, pair by pair (law `preview-shows`)
pub record Previewed (ws pairs : List ℕ) (category : ℕ) (after : List ℕ) : Type 0 where
  -- "It must equal closing a copy and reading it": the closing is accepted, and each pair is what its element then holds
  pub closing_accepted : close_refusal ws category ≡ 0
  pub pair_closed : (p : ℕ) → p < elements ws → (side : Side) → pair_at after p side ≡ share_of side (element_at (close_book ws category) p)
  -- elements of other categories and quoted ones show what they hold now
  pub pair_elsewhere : (p : ℕ) → p < elements ws → ((element_at ws p).category ≡ category → ⊥) → (side : Side)
      → pair_at after p side ≡ share_of side (element_at ws p)
  -- and those of other open categories 0
  pub pair_open : (p : ℕ) → p < elements ws → ((element_at ws p).category ≡ category → ⊥) → ((element_at ws p).category ≡ 0 → ⊥)
      → is_closed ws (element_at ws p).category ≡ false → (side : Side) → pair_at after p side ≡ 0
  -- the pairs of the category's elements add up to its unstruck entries
  pub pairs_add : (side : Side)
      → sum_below (elements ws) (λ p. cond (eqb (element_at ws p).category category) (pair_at after p side) 0) ≡ unstruck_of ws category side
  -- "pairs past the last element are 0"
  pub pair_past : (p : ℕ) → elements ws ≤ p → p < most_elements → (side : Side) → pair_at after p side ≡ 0
  -- "words past the 512th are not touched"
  pub rest_kept : (k : ℕ) → pair_words ≤ k → at after k ≡ at pairs k
  pub same_length : length after ≡ length pairs
