use mathlib.Core.Path.{◌≡◌, ap}
use Prim.Native.Nat.{ℕ, ◌+◌, ◌<◌, ◌≤◌}
use native.Mathlib.Omega.{arith}
use lib.ListN.{length, get_or-eq_default}
use Rattle.apportion.specs.Places.{at}
use Rattle.book_shares.proofs.FilledFront.{filling-here, filling-next, filling-past}
use Rattle.book_shares.proofs.sharing.add_parts.Goals as goal

pub loop-place-preserved : goal.loop-place-preserved
loop-place-preserved c =
    let here : c.loop-place.place < length c.args.shares.now = omega arith in
    let part = at c.args.parts.now c.loop-place.place in
    filling-next c.loop-place.invariant _ here (ap (λ (n : ℕ). n + part) (filling-here c.loop-place.invariant here))

pub returns : goal.returns
returns c =
    let end : c.loop-place.place ≡ length c.args.parts.now = omega arith in
    filling-past c.loop-place.invariant
    (λ j past.
    let none : length c.args.parts.now ≤ j = omega (arith, end) in
    omega (arith, get_or-eq_default c.args.parts.now 0 none))
