-- A line as the post of its converted cells. Assumes nothing.
use mathlib.Core.List.{List}
use mathlib.Core.Logic.{◌⊎◌, inl, inr}
use mathlib.Core.Path.{◌≡◌, refl}
use Prim.Native.Nat.{ℕ, zero, suc}
use native.Mathlib.Omega.{arith}
use Rattle.apportion.proofs.Grounds.{accepted-new, refused-old}
use Rattle.workbook.specs.Lines.{line_refusal, converted_line}
use Rattle.book.specs.declared.arguments.LineArguments.{LineArguments}
use Rattle.book.specs.declared.arguments.PostArguments.{PostArguments}
use Rattle.book.specs.Calls.{post_reply, post_book}
use Rattle.book.specs.Replies.{refusal_alone}
use Rattle.book.specs.Lines.{line_post, line_reply, line_book}

module _ (ws : List ℕ) (l : LineArguments) where
  -- 15 or 16 refuses a line, whatever the book,
  pub record CellsRefused : Type 0 where
    pub refused : line_refusal l.line ≡ 0 → ⊥
    pub reply : line_reply ws l ≡ refusal_alone (line_refusal l.line)
    pub book : line_book ws l ≡ ws

  -- or it is the post of its converted cells
  pub record AsPosted : Type 0 where
    pub fine : line_refusal l.line ≡ 0
    pub reply : line_reply ws l ≡ post_reply ws (line_post l)
    pub book : line_book ws l ≡ post_book ws (line_post l)

  pub cells-refused : (line_refusal l.line ≡ 0 → ⊥) → CellsRefused
  unfolding line_reply line_book
  cells-refused ne =
      record {
        refused = ne;
        reply = refused-old (line_refusal l.line) (post_reply ws (line_post l)) _ ne;
        book = refused-old (line_refusal l.line) (post_book ws (line_post l)) ws ne;
      }

  pub as-posted : line_refusal l.line ≡ 0 → AsPosted
  unfolding line_reply line_book
  as-posted e =
      record {
        fine = e;
        reply = accepted-new (line_refusal l.line) (post_reply ws (line_post l)) _ e;
        book = accepted-new (line_refusal l.line) (post_book ws (line_post l)) ws e;
      }

  pub refused-or-posted : CellsRefused ⊎ AsPosted
  refused-or-posted = go (line_refusal l.line) refl
    where
      go : (n : ℕ) → line_refusal l.line ≡ n → CellsRefused ⊎ AsPosted
      go zero is = inr (as-posted is)
      go (suc n) is = inl (cells-refused (λ z. omega (arith, is, z)))

-- the arguments of its post, with these measures
abbrev pub post_with : LineArguments → ℕ → ℕ → ℕ → PostArguments
post_with l quantity operation provision =
    record {
      category = l.category;
      group = l.group;
      quantity = quantity;
      operation_factor = operation;
      provision_factor = provision;
    }

pub converted-post : (l : LineArguments) → line_refusal l.line ≡ 0
    → post_with l (converted_line l.line).quantity (converted_line l.line).operation_factor (converted_line l.line).provision_factor ≡ line_post l
converted-post l e = rw e
