-- Lines of numbers, and the lines of a sheet. Assumes nothing.
use Prim.Native.Nat.{ℕ, zero, suc, ◌+◌, ◌*◌, ◌≤◌}
use native.Mathlib.Nat.{le_refl}
use native.Mathlib.Numerals.{add-one}
use native.Mathlib.Omega.{arith}
use mathlib.Core.Bool.{Bool, true, false, cond}
use mathlib.Core.List.{List, [], ◌∷◌, ◌++◌, append-nil}
use mathlib.Core.Path.{◌≡◌, refl}
use borrow.Author.Tests.{ltb-true}
use lib.Dec.{ltb}
use lib.ListN.{length, length-append}
use Rattle.apportion.specs.Places.{sum_below}
use Rattle.book.specs.ClassTotal.{class_total}
use Rattle.book.specs.Statements.{of_chain, elements_over, statement_of}
use Rattle.book.specs.Statements.{StatementReply}
use Rattle.book.proofs.Laws.{StatementWithin, statement-within, class-total-within}
use Rattle.book_words.specs.Book.{elements}
use Rattle.book_words.specs.Measures.{most_chains}
use Rattle.book_words.specs.Soundness.{sound}
use Rattle.report.specs.Text.{decimal, line_end, line, word_line}
use Rattle.report.specs.Sheet.{heading, is_used, statement_numbers, chain_line, lines_to, chain_lines, all_word, all_line, sheet_text, sheet_room}
use Rattle.report.specs.Sheet.{refused_word, refused_text}
use Rattle.report.specs.Inner.Steps.{refused_room}
use Rattle.report.proofs.Decimals.{digits-most, digits-few}
use Rattle.report.proofs.Columns.{elements-by-chain}

-- the most bytes of the end of a line with a statement's numbers: 3, 3, 19, 19 and 19 digits, five spaces and the newline
abbrev end_room : ℕ
end_room = 69

-- the most bytes of a chain's line, whose number has at most 5 digits, and of the last line, which begins with a word of 3 bytes
abbrev line_room : ℕ
line_room = 5 + end_room

abbrev all_room : ℕ
all_room = 3 + end_room

-- the end of a line with the five numbers of a statement, and with the three of a refusal, by the digits of each
end-of-five : (a b c d e : ℕ) → length (line_end (a ∷ b ∷ c ∷ d ∷ e ∷ []))
    ≡ length (decimal a) + length (decimal b) + length (decimal c) + length (decimal d) + length (decimal e) + 6
end-of-five a b c d e = simp length-append (omega arith)

end-of-three : (a b c : ℕ) → length (line_end (a ∷ b ∷ c ∷ [])) ≡ length (decimal a) + length (decimal b) + length (decimal c) + 4
end-of-three a b c = simp length-append (omega arith)

-- so the end of a line with the numbers of a statement has at most 69 bytes
end-most : (s : StatementReply) → StatementWithin s → length (line_end (statement_numbers s)) ≤ end_room
end-most s within =
    omega (
      arith,
      end-of-five s.elements s.waiting s.operation s.provision s.total,
      digits-most 2 s.elements (omega (arith, within)) (omega (arith, within)),
      digits-most 2 s.waiting (omega (arith, within)) (omega (arith, within)),
      digits-most 18 s.operation (omega (arith, within)) (omega (arith, within)),
      digits-most 18 s.provision (omega (arith, within)) (omega (arith, within)),
      digits-most 18 s.total (omega (arith, within)) (omega (arith, within)),
    )

-- and the line of a refusal has room
pub refused-fits : (number table record_number : ℕ) → length (refused_text number table record_number) ≤ refused_room
unfolding refused_text refused_word word_line
refused-fits number table record_number =
    omega (
      arith,
      length-append refused_word (line_end (number ∷ table ∷ record_number ∷ [])),
      end-of-three number table record_number,
      digits-few number,
      digits-few table,
      digits-few record_number,
    )

module _ (ws : List ℕ) (fine : sound ws ≡ true) where
  -- the line of a chain has at most 74 bytes
  line-most : (chain : ℕ) → chain ≤ most_chains → length (chain_line ws chain) ≤ line_room
  unfolding chain_line line
  line-most chain h =
      let s = statement_of ws chain in
      omega (
        arith,
        length-append (decimal chain) (line_end (statement_numbers s)),
        digits-most 4 chain (omega arith) (omega arith),
        end-most s (statement-within ws chain fine),
      )

  -- the last line has at most 72
  all_most : length (all_line (class_total ws)) ≤ all_room
  unfolding all_line all_word word_line
  all_most =
      omega (arith, length-append all_word (line_end (statement_numbers (class_total ws))), end-most (class_total ws) (class-total-within ws fine))

  -- the lines of the chains 1 to n have at most 74 bytes for each of their elements
  lines-most : (n : ℕ) → n ≤ most_chains → length (lines_to ws n) ≤ line_room * sum_below n (λ j. elements_over ws (of_chain (j + 1)))
  unfolding is_used
  lines-most zero h = omega arith
  lines-most (suc n) h = go (ltb 0 (elements_over ws (of_chain (suc n)))) refl (lines-most n (omega arith))
    where
      go : (t : Bool) → ltb 0 (elements_over ws (of_chain (suc n))) ≡ t → length (lines_to ws n) ≤ line_room * sum_below n (λ j. elements_over ws (of_chain (j + 1)))
          → length (lines_to ws n ++ cond (ltb 0 (elements_over ws (of_chain (suc n)))) (chain_line ws (suc n)) [])
          ≤ line_room * (sum_below n (λ j. elements_over ws (of_chain (j + 1))) + elements_over ws (of_chain (n + 1)))
      go true e before =
          rw (e, length-append, add-one) (omega (arith, before, line-most (suc n) h, ltb-true 0 (elements_over ws (of_chain (suc n))) e))
      go false e before = rw (e, append-nil (lines_to ws n)) (omega (arith, before))

  -- so a sheet has room
  room_for : (n : ℕ) → n ≤ most_chains → sum_below n (λ j. elements_over ws (of_chain (j + 1))) ≤ 256
      → length ((heading ++ lines_to ws n) ++ all_line (class_total ws)) ≤ sheet_room
  unfolding heading
  room_for n h few =
      omega (
        arith,
        length-append (heading ++ lines_to ws n) (all_line (class_total ws)),
        length-append heading (lines_to ws n),
        lines-most n h,
        all_most,
        few,
      )

  pub sheet-fits : length (sheet_text ws) ≤ sheet_room
  unfolding sheet_text chain_lines class_total
  sheet-fits =
      let all : (k : ℕ) → k ≡ sum_below (elements ws) (λ p. 1) → k ≤ 256 = λ k e. omega (arith, e, class-total-within ws fine) in
      room_for most_chains (le_refl most_chains) (all _ (elements-by-chain ws fine))
