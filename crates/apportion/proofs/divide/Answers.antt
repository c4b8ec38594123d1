-- `apportion::divide` meets its contract: the capped sum decides as the sum does, and the shares are written where no ground holds.
-- Assumes nothing.
use mathlib.Core.List.{List}
use mathlib.Core.Path.{◌≡◌, refl, sym, ap, ◌∙◌}
use Prim.Native.Nat.{ℕ, suc, min}
use lib.ListN.{length, replicate}
use Rattle.apportion.specs.Dividing.{most_total, refusal}
use Rattle.apportion.specs.Places.{sum_of}
use Rattle.apportion.proofs.AcceptedDivision.{Reckoned, number-whole, slots-admitted, pool-accepted, shares-accepted, shares-refused}
use Rattle.apportion.proofs.Laws.{pool-of-zero}
use Rattle.apportion.proofs.Lists.{list-zeros}
use Rattle.apportion.proofs.Refusals.{handed-on, number-some}
use Rattle.apportion.proofs.divide.Goals as goal

-- the capped sum and the number by it
reckoned : {pool : ℕ} {weights shares : List ℕ} {total number : ℕ} → total ≡ min (sum_of weights) (suc most_total)
    → number ≡ refusal pool (length weights) (length shares) total → Reckoned pool weights shares total number
reckoned total number = record { total_is = total; number_is = number }

pub invariant_of-share_out : goal.invariant_of-share_out
invariant_of-share_out c =
    let r = reckoned c.capped_total-total.ensures c.in_ok-check_grounds.ensures in
    record { accepted = pool-accepted r refl c.if-pool-eq0.false }

pub share_out-requires : goal.share_out-requires
share_out-requires c =
    slots-admitted (reckoned c.capped_total-total.ensures c.in_ok-check_grounds.ensures) refl

pub returns-then-pool-eq0 : goal.returns-then-pool-eq0
returns-then-pool-eq0 c =
    let r = reckoned c.capped_total-total.ensures c.in_ok-check_grounds.ensures in
    record {
      value = number-whole r;
      shares_after =
          c.fill.ensures.after (λ y e. e)
          ∙ ap (λ (n : ℕ). replicate n 0) (slots-admitted r refl)
          ∙ sym (list-zeros _)
          ∙ sym (pool-of-zero _ _ c.if-pool-eq0.true)
          ∙ shares-accepted r refl;
    }

pub returns-else-pool-eq0 : goal.returns-else-pool-eq0
returns-else-pool-eq0 c =
    let r = reckoned c.capped_total-total.ensures c.in_ok-check_grounds.ensures in
    record { value = number-whole r; shares_after = c.share_out.ensures ∙ shares-accepted r refl }

pub returns-in_err-check_grounds : goal.returns-in_err-check_grounds
returns-in_err-check_grounds c =
    let r = reckoned c.capped_total-total.ensures c.in_err-check_grounds.ensures in
    record {
      value = handed-on _ c.from_residual.result c.from_residual.ensures.1 ∙ number-whole r;
      shares_after = shares-refused r (number-some c.in_err-check_grounds.field-0.0);
    }
