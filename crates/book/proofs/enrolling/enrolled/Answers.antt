-- `book::enrolling::enrolled` meets its contract: an activity in range is not capped. Assumes nothing.
use Rattle.book_words.proofs.CappedSums.{capped_small}
use Rattle.book_words.proofs.Ranges.{activity_small}
use Rattle.book.proofs.AcceptedCalls.{enrol-measured}
use Rattle.book.proofs.enrolling.enrolled.Goals as goal

pub returns : goal.returns
returns c =
    let e = c.args.e in
    let measured = enrol-measured c.args.category e c.requires.e_value in
    let small = activity_small c.args.category.kind e.code e.amount e.distance c.requires.code_value measured.amount measured.distance in
    rw (c.activity.ensures, capped_small _ small)
