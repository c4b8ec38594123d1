-- `apportion::units::count_at_least` meets its contract: the library's sum is the definition's count. Assumes nothing.
use mathlib.Core.Path.{◌≡◌, ◌∙◌}
use Prim.Native.Nat.{◌-◌, ◌^◌, ◌≤◌}
use native.Mathlib.Omega.{arith}
use lib.Dec.{leb}
use lib.ListN.{length}
use mir.Val.{bool_byte}
use Rattle.std.proofs.Common.{rules}
use Rattle.std.proofs.lemmas.Iterator.{YieldsList-from_slice}
use Rattle.std.proofs.lemmas.Iterator.Adapters.{fits_from_length, at_most_from_yields_List}
use Rattle.std.specs.List.{sum_by}
use Rattle.apportion.specs.Inner.Units.{count_at_least}
use Rattle.apportion.proofs.Sums.{byte_most}
use Rattle.apportion.proofs.Lists.{count-by-place}
use Rattle.apportion.proofs.units.count_at_least.Goals as goal

pub sum-requires-clause-fits : goal.sum-requires-clause-fits
sum-requires-clause-fits c =
    let few : length c.args.remainders.now ≤ 2 ^ 64 - 1 = omega (arith, c.iter.ensures.bound) in
    fits_from_length _ _ (2 ^ 64 - 1) (2 ^ 64) (at_most_from_yields_List (YieldsList-from_slice c.args.remainders.now cc) few) c.map.ensures.closure (omega arith)
    (λ x r q k. search (rules, byte_most))

pub returns : goal.returns
unfolding count_at_least
returns c =
    let e : c.sum.result ≡ sum_by (λ x. bool_byte (leb c.args.bound x)) c.args.remainders.now = search rules in
    e ∙ count-by-place (leb c.args.bound) c.args.remainders.now
