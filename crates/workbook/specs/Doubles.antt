-- "A double becomes the nearest whole thousandth of its exact binary value", of two equally near the even one (document 02, (vi)). A double
-- is the library's: `nan`, `inf s`, or `fin s m e`, the number m × 2^e, below zero where s is true and m is not 0. All that is worked out
-- here is worked out in whole numbers. Assumes nothing.
use Rattle.std.specs.Prelude.{Bool, true, false, not, ◌&&◌, ◌||◌, ℕ, ◌*◌, ltb, Float}
use Rattle.std.specs.Float.{nan, inf, fin}
use Rattle.std.specs.Float.Ieee.{up, down}
use Rattle.apportion.specs.Fractions.{Fraction, over, nearest}

-- the exact value of a finite double, without its sign: 2^e is the fraction up e / down e. Of any other double it is 0, which nothing takes
abbrev pub exact : Float → Fraction
exact nan = over 0 1
exact (inf s) = over 0 1
exact (fin s m e) = over (m * up e) (down e)

-- the nearest whole thousandth of a fraction
abbrev pub thousandths : Fraction → ℕ
thousandths x = nearest (1000 * x.numerator) x.denominator

abbrev pub is_finite : Float → Bool
is_finite nan = false
is_finite (inf s) = false
is_finite (fin s m e) = true

-- "negative zero is zero"
abbrev pub is_below_zero : Float → Bool
is_below_zero nan = false
is_below_zero (inf s) = s
is_below_zero (fin s m e) = s && ltb 0 m

-- the fraction is above a whole number
abbrev pub is_above : ℕ → Fraction → Bool
is_above limit x = ltb (limit * x.denominator) x.numerator

-- "a double that is not finite, is below zero or is above its limit"
unfoldable pub is_refused : ℕ → Float → Bool
is_refused limit x = not (is_finite x) || is_below_zero x || is_above limit (exact x)
