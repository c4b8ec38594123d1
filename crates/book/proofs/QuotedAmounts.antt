-- The amounts of a quote. Assumes nothing.
use mathlib.Core.Bool.{Bool, cond, true, false, ◌&&◌}
use mathlib.Core.Path.{ap, ◌≡◌, ◌∙◌, sym}
use Prim.Native.Nat.{ℕ, ◌*◌, ◌/◌, ◌+◌, ◌%◌, ◌≤◌}
use native.Mathlib.Nat.{div-add-mod'}
use native.Mathlib.Omega.{arith}
use lib.Dec.{eqb}
use Rattle.std.proofs.lemmas.Bool.{and_parts}
use Rattle.apportion.specs.Fractions.{nearest, added_by_rounding}
use Rattle.book_words.specs.Inner.Steps.{capped}
use Rattle.book_words.specs.Measures.{is_mass, is_distance, is_intensity}
use Rattle.book.specs.declared.arguments.QuoteArguments.{QuoteArguments}
use Rattle.book.specs.Calls.{adjusted, quote_in_range}
use Rattle.book_words.proofs.CappedSums.{capped-add, capped-rounded}

-- a product by the thousands of its second factor and what is left of it
thousands-apart : (i a : ℕ) → (i * (a / 1000) + i * (a % 1000) / 1000) * 1000 + i * (a % 1000) % 1000 ≡ i * a
thousands-apart i a =
    let whole : i * a ≡ i * (a / 1000 * 1000 + a % 1000) = sym (ap (λ (n : ℕ). i * n) (div-add-mod' a 1000)) in
    omega arith

-- a quote's amount by these, each step capped
pub amount-rounded : (i a : ℕ) {whole quotient added amount : ℕ} → whole ≡ capped (i * (a / 1000))
    → quotient ≡ capped (whole + i * (a % 1000) / 1000) → added ≡ added_by_rounding quotient (i * (a % 1000) % 1000) 1000
    → amount ≡ capped (quotient + added) → amount ≡ capped (nearest (i * a) 1000)
amount-rounded i a w q u e =
    let exact = i * (a / 1000) + i * (a % 1000) / 1000 in
    e
    ∙ rw (u, q, w, capped-add (i * (a / 1000)) (i * (a % 1000) / 1000))
    (capped-rounded exact (i * (a % 1000) % 1000) 1000 (omega arith) ∙ ap (λ (n : ℕ). capped (nearest n 1000)) (thousands-apart i a))

-- the distance that a quote is of, adjusted or not, is within the largest one and 95 km
pub adjusted-most : (q : QuoteArguments) → q.distance ≤ 40_000_000 → adjusted q ≤ 40_095_000
adjusted-most q h = go (eqb q.adjust 1)
  where
    go : (t : Bool) → cond t (q.distance + 95_000) q.distance ≤ 40_095_000
    go true = omega arith
    go false = omega arith

-- the measures of a quote, each in its range
pub record Measures (q : QuoteArguments) : Type 0 where
  pub mass : is_mass q.mass ≡ true
  pub distance : is_distance q.distance ≡ true
  pub operation : is_intensity q.operation_intensity ≡ true
  pub provision : is_intensity q.provision_intensity ≡ true

pub quote-measured : (q : QuoteArguments) → quote_in_range q ≡ true → Measures q
quote-measured q e =
    let three = is_mass q.mass && is_distance q.distance && is_intensity q.operation_intensity in
    let all = and_parts three (is_intensity q.provision_intensity) e in
    let first = and_parts (is_mass q.mass && is_distance q.distance) (is_intensity q.operation_intensity) all.0 in
    let two = and_parts (is_mass q.mass) (is_distance q.distance) first.0 in
    record { mass = two.0; distance = two.1; operation = first.1; provision = all.1 }
