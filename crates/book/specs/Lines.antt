-- "The line is then posted to a stated category and group.", after 15 and 16, which come "before the post's own checks". Assumes nothing.
use Rattle.std.specs.Prelude.{List, ℕ}
use Rattle.apportion.specs.Grounds.{accepted}
use Rattle.workbook.specs.Cells.{cell_value}
use Rattle.workbook.specs.Lines.{line_refusal}
use Rattle.book.specs.declared.arguments.LineArguments.{LineArguments}
use Rattle.book.specs.declared.arguments.PostArguments.{PostArguments}
use Rattle.book.specs.Replies.{Reply, refusal_alone}
use Rattle.book.specs.Calls.{post_reply, post_book}

-- the post "of its converted cells": thousandths of a unit, and of grams per unit, which are mg per unit
abbrev pub line_post : LineArguments → PostArguments
line_post l =
    record {
      category = l.category;
      group = l.group;
      quantity = cell_value l.line.quantity;
      operation_factor = cell_value l.line.operation_factor;
      provision_factor = cell_value l.line.provision_factor;
    }

unfoldable pub line_reply : List ℕ → LineArguments → Reply
line_reply ws l = accepted (line_refusal l.line) (post_reply ws (line_post l)) (refusal_alone (line_refusal l.line))

unfoldable pub line_book : List ℕ → LineArguments → List ℕ
line_book ws l = accepted (line_refusal l.line) (post_book ws (line_post l)) ws
