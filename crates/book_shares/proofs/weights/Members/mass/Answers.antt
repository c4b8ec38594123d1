-- `book_shares::weights::Members::mass` meets its contract: the sum of the passengers by mass, within 10^18. Assumes nothing.
use mathlib.Core.Path.{◌∙◌}
use native.Mathlib.Omega.{arith}
use Rattle.std.proofs.Common.{rules}
use Rattle.book_shares.specs.Inner.Members.{mass_in}
use Rattle.book_words.proofs.CappedSums.{capped_small}
use Rattle.book_shares.proofs.MemberSums.{listed_served}
use Rattle.book_shares.proofs.weights.Members.mass.Goals as goal

pub returns : goal.returns
returns c =
    let served = listed_served c.args.self.book.now c.args.self.category c.args.self.places.now c.args.self.fine c.args.self.are in
    c.sum.ensures mass_in (λ e n is. search rules) ∙ capped_small _ (omega (arith, served))
