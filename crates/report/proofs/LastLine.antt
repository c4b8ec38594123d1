-- The last line of a text that is made of lines, and so of a sheet. Assumes nothing.
use Prim.Native.Nat.{ℕ, zero, suc, ◌+◌, ◌≤◌, ◌/◌, ◌%◌}
use native.Mathlib.Omega.{arith}
use mathlib.Core.Bool.{Bool, true, false, cond}
use mathlib.Core.List.{List, [], ◌∷◌, ◌++◌, append-nil, append_assoc}
use mathlib.Core.Path.{◌≡◌, refl, sym, ◌∙◌, ap}
use borrow.Author.Tests.{ne_eqb, lt-ltb, le-ltb}
use lib.Dec.{ltb}
use lib.ListN.{take}
use Rattle.book.specs.ClassTotal.{class_total}
use Rattle.book.specs.Statements.{statement_of}
use Rattle.book.specs.Statements.{StatementReply}
use Rattle.book_words.specs.Measures.{most_chains}
use Rattle.report.specs.Sheet.{heading, is_used, statement_numbers, chain_line, lines_to, chain_lines, all_word, all_line, sheet_text}
use Rattle.report.specs.Text.{digit, decimal_within, decimal, spaced, line_end, line, word_line, newlines, last_line_of}

newlines-append : (s t : List ℕ) → newlines (s ++ t) ≡ newlines s + newlines t
newlines-append [] t = omega arith
newlines-append (b ∷ s) t = omega (arith, newlines-append s t)

-- a line is its own last line
one_line : (text : List ℕ) → newlines text ≤ 1 → last_line_of text ≡ text
one_line [] h = refl
one_line (b ∷ text) h = rw (le-ltb 1 (newlines (b ∷ text)) h)

-- and that of a text that it stands behind
last-behind : (front text : List ℕ) → newlines text ≡ 1 → last_line_of ((front ++ (10 ∷ [])) ++ text) ≡ text
last-behind [] text one = rw one (one_line text (omega (arith, one)))
last-behind (b ∷ front) text one =
    let behind = (front ++ (10 ∷ [])) ++ text in
    rw (lt-ltb 1 (newlines (b ∷ behind)) (omega (arith, newlines-append (front ++ (10 ∷ [])) text, newlines-append front (10 ∷ []), one)))
    (last-behind front text one)

-- digits and spaces are no newlines
decimal-plain : (most n : ℕ) → newlines (decimal_within most n) ≡ 0
decimal-plain zero n = refl
decimal-plain (suc most) n = go (ltb n 10) (decimal-plain most (n / 10))
  where
    plain : (k : ℕ) → newlines (digit k ∷ []) ≡ 0
    plain k = rw (ne_eqb (48 + k) 10 (omega arith))

    go : (t : Bool) → newlines (decimal_within most (n / 10)) ≡ 0
        → newlines (cond t (digit n ∷ []) (decimal_within most (n / 10) ++ (digit (n % 10) ∷ []))) ≡ 0
    go true before = plain n
    go false before = omega (arith, newlines-append (decimal_within most (n / 10)) (digit (n % 10) ∷ []), before, plain (n % 10))

-- so the end of a line has its own newline alone
end-one : (numbers : List ℕ) → newlines (line_end numbers) ≡ 1
unfolding decimal
end-one [] = refl
end-one (n ∷ numbers) =
    ap newlines (append_assoc (32 ∷ decimal n) (spaced numbers) (10 ∷ []))
    ∙ omega (arith, newlines-append (decimal n) (line_end numbers), decimal-plain 20 n, end-one numbers)

all_one : (total : StatementReply) → newlines (all_line total) ≡ 1
unfolding all_line all_word word_line
all_one total = omega (arith, end-one (statement_numbers total))

-- a text that ends in a newline
record Ended (text : List ℕ) : Type 0 where
  front : List ℕ
  is : text ≡ front ++ (10 ∷ [])

ended-append : (s : List ℕ) {t : List ℕ} → Ended t → Ended (s ++ t)
ended-append s e = record { front = s ++ e.front; is = ap (λ (l : List ℕ). s ++ l) e.is ∙ sym (append_assoc s e.front (10 ∷ [])) }

module _ (ws : List ℕ) where
  ended-line : (chain : ℕ) → Ended (chain_line ws chain)
  unfolding chain_line line
  ended-line chain =
      ended-append (decimal chain) (record { front = spaced (statement_numbers (statement_of ws chain)); is = refl })

  -- as the heading does, and the lines behind it
  ended-lines : (n : ℕ) → Ended (heading ++ lines_to ws n)
  unfolding heading
  ended-lines zero = record { front = take 48 heading; is = refl }
  ended-lines (suc n) = go (is_used ws (suc n)) (ended-lines n)
    where
      go : (t : Bool) → Ended (heading ++ lines_to ws n) → Ended (heading ++ (lines_to ws n ++ cond t (chain_line ws (suc n)) []))
      go true before = ended-append heading (ended-append (lines_to ws n) (ended-line (suc n)))
      go false before = rw (append-nil (lines_to ws n)) before

  -- the class total is the last line of a sheet
  pub sheet-last-line : last_line_of (sheet_text ws) ≡ all_line (class_total ws)
  unfolding sheet_text chain_lines
  sheet-last-line =
      let lines = ended-lines most_chains in
      let last = all_line (class_total ws) in
      ap (λ (l : List ℕ). last_line_of (l ++ last)) lines.is ∙ last-behind lines.front last (all_one (class_total ws))
