-- Numbers held by a quotient and a remainder: the powers of the pool, and a product as a sum of them.
-- Assumes nothing.
use mathlib.Core.Path.{◌≡◌, ap}
use mathlib.Core.Logic.{⊎_elim}
use mathlib.Core.List.{List}
use Prim.Native.Nat.{ℕ, ◌+◌, ◌-◌, ◌*◌, ◌/◌, ◌%◌, ◌^◌, ◌≤◌, ◌<◌}
use native.Mathlib.Nat.{add-zero, mul-add-div_right, div-eq_of_lt, mul-add-mod_self_right, mod-eq_of_lt}
use native.Mathlib.Omega.{arith}
use lib.Pow.{pow_mono}
use lib.ListN.{length}
use Rattle.std.proofs.lemmas.Bool.{cases_lt}
use Rattle.apportion.specs.declared.floors.Division.{Division}
use Rattle.apportion.specs.Dividing.{most_total}
use Rattle.apportion.specs.Inner.Products.{Powers, division_at}

-- a power of two within a number is below one that is over it
power_below : (b bit most : ℕ) → 2 ^ b ≤ most → most < 2 ^ bit → b < bit
power_below b bit most within over =
    ⊎_elim
    (λ (l : b < bit). l)
    (λ (large : bit ≤ b). let z : ⊥ = omega (arith, pow_mono large) in absurd z)
    (cases_lt b bit)

-- one within 10^18 is below the 60th
pub bit_small : (bit : ℕ) → 2 ^ bit ≤ most_total → bit < 60
bit_small bit h = power_below bit 60 most_total h (omega arith)

-- The list holds the powers below `bit`, and the next one is at hand.
pub record Making (pool total : ℕ) (divisions : List Division) (power : Division) (step bit : ℕ) : Type 0 where
  pub long : length divisions ≡ 60
  pub step_is : step ≡ 2 ^ bit
  pub some : 0 < step
  pub whole : power.quotient * total + power.remainder ≡ pool * step
  pub less : power.remainder < total
  pub made : (b : ℕ) → b < bit → (division_at divisions b).quotient * total + (division_at divisions b).remainder ≡ pool * 2 ^ b
  pub made_less : (b : ℕ) → b < bit → (division_at divisions b).remainder < total

module _ {pool total : ℕ} {divisions : List Division} {power : Division} {step bit : ℕ}
    (m : Making pool total divisions power step bit) where
  -- every power within the total is below `bit` when the next one is over the total
  pub making-done : total < step → Powers pool total divisions
  making-done over =
      let below : (b : ℕ) → 2 ^ b ≤ total → b < bit = λ b h. power_below b bit total h (omega (arith, m.step_is)) in
      record { long = m.long; whole = λ b h. m.made b (below b h); less = λ b h. m.made_less b (below b h) }

-- a quotient and a remainder are those of the number that they make
pub quotient_is : (total n quotient remainder : ℕ) → quotient * total + remainder ≡ n → remainder < total
    → (quotient ≡ n / total) × (remainder ≡ n % total)
quotient_is total n quotient remainder whole less =
    let some : 0 < total = omega arith in (
      rw (← whole, mul-add-div_right some quotient remainder, div-eq_of_lt less, add-zero),
      rw (← whole, mul-add-mod_self_right quotient total remainder, mod-eq_of_lt less),
    )

-- The sum of the powers at the bits of the weight that have been taken, and the rest of the weight.
pub record Adding (pool weight total : ℕ) (sum : Division) (rest : ℕ) : Type 0 where
  pub whole : sum.quotient * total + sum.remainder + pool * rest ≡ pool * weight
  pub less : sum.remainder < total
  pub within : rest ≤ weight

module _ {pool weight total : ℕ} {sum : Division} {rest : ℕ} (a : Adding pool weight total sum rest) where
  pub adding-next : (bit : ℕ) → 2 ^ bit ≤ rest → (power : Division) {next : Division} → power.quotient * total + power.remainder ≡ pool * 2 ^ bit
      → next.quotient * total + next.remainder ≡ (sum.quotient + power.quotient) * total + (sum.remainder + power.remainder)
      → next.remainder < total
      → Adding pool weight total next (rest - 2 ^ bit)
  adding-next bit taken power one more less =
      let e : rest ≡ (rest - 2 ^ bit) + 2 ^ bit = omega arith in
      record {
        whole = omega (arith, a.whole, one, more, ap (λ (n : ℕ). pool * n) e);
        less = less;
        within = omega (arith, a.within);
      }

  pub adding-done : rest ≡ 0 → (sum.quotient ≡ pool * weight / total) × (sum.remainder ≡ pool * weight % total)
  adding-done none =
      quotient_is total (pool * weight) sum.quotient sum.remainder (omega (arith, a.whole, ap (λ (n : ℕ). pool * n) none)) a.less
