-- `book::quoting::quoted` meets its contract: the two amounts are those of the definition, capped. Assumes nothing.
use native.Mathlib.Nat.{mul_assoc}
use Rattle.book.specs.Calls.{adjusted, quoted_amount}
use Rattle.book.proofs.quoting.quoted.Goals as goal

pub returns : goal.returns
unfolding quoted_amount
returns c =
    let q = c.args.q in
    rw (
      c.nearest_thousandth-2.ensures,
      c.nearest_thousandth.ensures,
      c.adjusted-far.ensures,
      mul_assoc q.operation_intensity q.mass (adjusted q),
      mul_assoc q.provision_intensity q.mass (adjusted q),
    )
