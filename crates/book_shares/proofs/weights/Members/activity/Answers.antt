-- `book_shares::weights::Members::activity` meets its contract: the sum of the activities, within 10^18. Assumes nothing.
use mathlib.Core.Path.{◌∙◌}
use Rattle.std.proofs.Common.{rules}
use Rattle.book_shares.specs.Inner.Members.{activity_in, by_number}
use Rattle.book_words.proofs.CappedSums.{capped_small}
use Rattle.book_shares.proofs.MemberSums.{listed_activity}
use Rattle.book_shares.proofs.weights.Members.activity.Goals as goal

pub returns : goal.returns
returns c =
    c.sum.ensures (activity_in (by_number c.args.recipients)) (λ e n is. search rules)
    ∙ capped_small _ (listed_activity c.args.self.book.now c.args.self.category c.args.self.places.now c.args.self.fine c.args.self.are (by_number c.args.recipients))
