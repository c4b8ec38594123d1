-- Fractions of whole numbers, and rounding. Assumes nothing.
use Rattle.std.specs.Prelude.{cond, ℕ, ◌+◌, ◌*◌, ◌/◌, ◌%◌, ltb}

-- a fraction, by its numerator and its denominator
pub record Fraction : Type 0 where
  pub numerator : ℕ
  pub denominator : ℕ

abbrev pub over : ℕ → ℕ → Fraction
over n d = record { numerator = n; denominator = d }

-- the sum of two fractions
abbrev pub plus : Fraction → Fraction → Fraction
plus x y = over (x.numerator * y.denominator + y.numerator * x.denominator) (x.denominator * y.denominator)

-- "Halves go to the even number." What rounding adds to a quotient: nothing where the remainder is less than half of the divisor, 1 where
-- it is more, and at the half what makes the quotient even
unfoldable pub added_by_rounding : ℕ → ℕ → ℕ → ℕ
added_by_rounding quotient remainder divisor =
    cond (ltb (2 * remainder) divisor) 0 (cond (ltb divisor (2 * remainder)) 1 (quotient % 2))

-- the whole number nearest to n / d, where d is above 0; of two equally near the even one
unfoldable pub nearest : ℕ → ℕ → ℕ
nearest n d = n / d + added_by_rounding (n / d) (n % d) d
