-- Capped sums, products and rounded quotients: they decide a comparison with a limit of at most 10^18 as those that are not capped do.
-- Assumes nothing.
use mathlib.Core.Bool.{Bool, true, false, ◌&&◌}
use mathlib.Core.Logic.{⊎_elim}
use mathlib.Core.Path.{ap, ◌≡◌, ◌∙◌, sym}
use Prim.Native.Nat.{ℕ, ◌≤◌, ◌+◌, ◌*◌, zero, suc, ◌<◌}
use native.Mathlib.Nat.{mul-zero, mul-le-mul_left}
use native.Mathlib.Omega.{arith}
use lib.Dec.{ltb, leb, eqb}
use borrow.Author.Tests.{lt-ltb, leb-true, lt-leb, ne_eqb}
use Rattle.std.proofs.lemmas.Bool.{and_parts, cases_lt}
use Rattle.book_words.specs.declared.totals.Sums.{Sums}
use Rattle.book_words.specs.Totals.{most_emissions, most_activity, within_limits}
use Rattle.book_words.specs.Inner.Steps.{most_exact, capped, cap_sums}
use Rattle.apportion.specs.Fractions.{nearest, added_by_rounding}
use Rattle.apportion.proofs.Rounding.{rounded}

pub capped_small : (n : ℕ) → n ≤ most_exact → capped n ≡ n
capped_small n h = omega arith

pub capped-add : (a b : ℕ) → capped (capped a + b) ≡ capped (a + b)
capped-add a b = omega arith

pub capped-both : (a b : ℕ) → capped (capped a + capped b) ≡ capped (a + b)
capped-both a b = omega arith

-- a product of a capped number
pub capped-times : (a b : ℕ) → capped (capped a * b) ≡ capped (a * b)
capped-times a zero = rw (mul-zero, mul-zero)
capped-times a (suc b) =
    ⊎_elim
    (λ (l : a < suc most_exact). rw (capped_small a (omega arith)))
    (λ (g : suc most_exact ≤ a).
    let e : capped a ≡ suc most_exact = omega arith in
    let more : a * 1 ≤ a * suc b = mul-le-mul_left a (omega arith) in
    rw e (omega (arith, more)))
    (cases_lt a (suc most_exact))

-- a capped quotient, rounded
pub capped-rounded : (q r d : ℕ) → r < d → capped (capped q + added_by_rounding (capped q) r d) ≡ capped (nearest (q * d + r) d)
capped-rounded q r d h =
    ⊎_elim
    (λ (l : q < suc most_exact). rw (capped_small q (omega arith), rounded q r d h))
    (λ (g : suc most_exact ≤ q). omega (arith, rounded q r d h))
    (cases_lt q (suc most_exact))

pub capped-more : (a b : ℕ) → capped (a + capped b) ≡ capped (a + b)
capped-more a b = omega arith

-- a test that answers alike past the cap answers of a capped number as of the number
capped-test : (test : ℕ → Bool) (t : Bool) (n : ℕ) → ((m : ℕ) → most_exact < m → test m ≡ t) → test (capped n) ≡ test n
capped-test test t n past =
    ⊎_elim
    (λ (l : n < suc most_exact). ap test (capped_small n (omega arith)))
    (λ (g : suc most_exact ≤ n). past (capped n) (omega arith) ∙ sym (past n g))
    (cases_lt n (suc most_exact))

-- so it passes a limit, and is within one
pub capped-over : (limit n : ℕ) → limit ≤ most_exact → ltb limit (capped n) ≡ ltb limit n
capped-over limit n h = capped-test (ltb limit) true n (λ m g. lt-ltb limit m (omega arith))

pub capped-within : (limit n : ℕ) → limit ≤ most_exact → leb (capped n) limit ≡ leb n limit
capped-within limit n h = capped-test (λ m. leb m limit) false n (λ m g. lt-leb m limit (omega arith))

-- of two numbers of which one is within the cap, the capped are equal as the numbers are
pub capped-equal : (a b : ℕ) → b ≤ most_exact → eqb (capped a) (capped b) ≡ eqb a b
capped-equal a b h = rw (capped_small b h) (capped-test (λ m. eqb m b) false a (λ m g. ne_eqb m b (λ e. omega arith)))

-- the sums of ground 10: each is within its limit, and then none is capped
pub within-parts : (sums : Sums) → within_limits sums ≡ true
    → (sums.operation ≤ most_emissions) × (sums.provision ≤ most_emissions) × (sums.activity ≤ most_activity)
within-parts sums e =
    let one = leb sums.operation most_emissions in
    let two = leb sums.provision most_emissions in
    let a = and_parts (one && two) (leb sums.activity most_activity) e in
    let b = and_parts one two a.0 in (
      leb-true sums.operation most_emissions b.0,
      leb-true sums.provision most_emissions b.1,
      leb-true sums.activity most_activity a.1,
    )

pub sums-exact : (sums : Sums) → within_limits sums ≡ true → cap_sums sums ≡ sums
sums-exact sums e =
    let w = within-parts sums e in
    rw (
      capped_small sums.operation w.0,
      capped_small sums.provision w.1,
      capped_small sums.activity (omega (arith, w.2)),
    )

pub sums-within : (sums : Sums) → within_limits (cap_sums sums) ≡ within_limits sums
sums-within sums =
    rw (
      capped-within most_emissions sums.operation (omega arith),
      capped-within most_emissions sums.provision (omega arith),
      capped-within most_activity sums.activity (omega arith),
    )
