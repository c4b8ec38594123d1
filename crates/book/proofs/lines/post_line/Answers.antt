-- `book::lines::post_line` meets its contract: 15 and 16, and the post. Assumes nothing.
use mathlib.Core.Path.{◌∙◌, ap, sym}
use Rattle.apportion.proofs.Refusals.{number-some}
use Rattle.workbook.specs.Lines.{LineConversion}
use Rattle.book.specs.Calls.{post_reply, post_book}
use Rattle.book.specs.Replies.{refusal_alone}
use Rattle.book.proofs.LinesAsPosts.{cells-refused, as-posted, post_with, converted-post}
use Rattle.book.proofs.TestsAsGrounds.{reply-handed}
use Rattle.book.proofs.lines.post_line.Goals as goal

pub returns-in_err-converted-clause-value : goal.returns-in_err-converted-clause-value
returns-in_err-converted-clause-value c =
    let number = ap (λ (r : LineConversion). r.refusal) c.in_err-converted.ensures in
    let bad = cells-refused c.args.book.now c.args.l (λ z. number-some c.in_err-converted.field-0.0 (number ∙ z)) in
    reply-handed _ c.from_residual.result c.from_residual.ensures.1 ∙ ap refusal_alone number ∙ sym bad.reply

pub returns-in_err-converted-clause-book_after : goal.returns-in_err-converted-clause-book_after
returns-in_err-converted-clause-book_after c =
    let number = ap (λ (r : LineConversion). r.refusal) c.in_err-converted.ensures in
    let bad = cells-refused c.args.book.now c.args.l (λ z. number-some c.in_err-converted.field-0.0 (number ∙ z)) in
    sym bad.book

pub returns-clause-value : goal.returns-clause-value
returns-clause-value c =
    let ws = c.args.book.now in
    let fine = sym (ap (λ (r : LineConversion). r.refusal) c.in_ok-converted.ensures) in
    let posted = as-posted ws c.args.l fine in
    let same =
    ap (λ (r : LineConversion). post_with c.args.l r.quantity r.operation_factor r.provision_factor) c.in_ok-converted.ensures
    ∙ converted-post c.args.l fine in
    c.post.ensures.value ∙ ap (post_reply ws) same ∙ sym posted.reply

pub returns-clause-book_after : goal.returns-clause-book_after
returns-clause-book_after c =
    let ws = c.args.book.now in
    let fine = sym (ap (λ (r : LineConversion). r.refusal) c.in_ok-converted.ensures) in
    let posted = as-posted ws c.args.l fine in
    let same =
    ap (λ (r : LineConversion). post_with c.args.l r.quantity r.operation_factor r.provision_factor) c.in_ok-converted.ensures
    ∙ converted-post c.args.l fine in
    c.post.ensures.book_after ∙ ap (post_book ws) same ∙ sym posted.book
