-- A fraction that is written otherwise is converted alike, and so is a double that has its value. Assumes nothing.
use mathlib.Core.Bool.{Bool, true, false, ◌&&◌, ◌||◌}
use mathlib.Core.Logic.{⊎_elim}
use mathlib.Core.Path.{◌≡◌, refl, sym}
use Prim.Native.Nat.{ℕ, zero, suc, ◌*◌, ◌≤◌, ◌<◌}
use native.Mathlib.Nat.{mul-pos, lt_of_mul-lt-mul_right, mul-lt-mul_of_pos_right}
use native.Mathlib.Omega.{arith}
use borrow.Author.Tests.{ltb-true, ltb-false, lt-ltb, le-ltb}
use lib.Dec.{ltb}
use lib.Ieee.{Float, nan, inf, fin, up, down}
use lib.Ieee.Exact.{HasValue}
use lib.Ieee.Fits.{down_pos, up_pos}
use Rattle.std.proofs.lemmas.Bool.{cases_lt}
use Rattle.std.proofs.Common.{Err}
use Rattle.apportion.specs.Fractions.{over}
use Rattle.apportion.specs.declared.refusing.Refusal.TheVariants.{WrongCell}
use Rattle.apportion.proofs.Rounding.{nearest-same}
use Rattle.workbook.specs.declared.cells.Cell.TheVariants.{Number}
use Rattle.workbook.specs.Doubles.{exact, thousandths, is_above, is_refused}
use Rattle.workbook.specs.Inner.Steps.{conversion_in, conversion_of, fraction_conversion}

-- two tests that say the same
same_test : (a b c d : ℕ) → (a < b → c < d) → (c < d → a < b) → ltb a b ≡ ltb c d
same_test a b c d there back = go (ltb a b) refl
  where
    go : (t : Bool) → ltb a b ≡ t → t ≡ ltb c d
    go true is = sym (lt-ltb c d (there (ltb-true a b is)))
    go false is = sym (le-ltb c d (⊎_elim (λ (l : c < d). let z = back l in omega (arith, z, ltb-false a b is)) (λ (g : d ≤ c). g) (cases_lt c d)))

-- a fraction is above a limit however it is written
above_same : (limit a b c d : ℕ) → 0 < b → 0 < d → a * d ≡ c * b → is_above limit (over a b) ≡ is_above limit (over c d)
above_same limit a b c d some-b some-d e =
    same_test (limit * b) a (limit * d) c
    (λ h.
    let wide : limit * b * d < a * d = mul-lt-mul_of_pos_right h some-d in
    lt_of_mul-lt-mul_right b (omega (arith, e, wide)))
    (λ h.
    let wide : limit * d * b < c * b = mul-lt-mul_of_pos_right h some-b in
    lt_of_mul-lt-mul_right d (omega (arith, e, wide)))

thousandths-same : (a b c d : ℕ) → 0 < b → 0 < d → a * d ≡ c * b → thousandths (over a b) ≡ thousandths (over c d)
thousandths-same a b c d some-b some-d e = nearest-same (1000 * a) b (1000 * c) d some-b some-d (omega (arith, e))

pub fraction-same : (limit a b c d : ℕ) → 0 < b → 0 < d → a * d ≡ c * b → fraction_conversion limit (over a b) ≡ fraction_conversion limit (over c d)
unfolding fraction_conversion
fraction-same limit a b c d some-b some-d e = rw (above_same limit a b c d some-b some-d e, thousandths-same a b c d some-b some-d e)

-- of two equal products the first factors are above 0 together, where a second one is
some-too : (m w a v : ℕ) → 0 < w → m * w ≡ a * v → 0 < m → 0 < a
some-too m w zero v some-w is some-m = let more : 0 < m * w = mul-pos some-m some-w in omega (arith, is, more)
some-too m w (suc a) v some-w is some-m = omega arith

-- a double that has a value
module _ (limit : ℕ) (s : Bool) (a c : ℕ) (some : 0 < c) where
  pub value-refused : (x : Float) → HasValue x s a c → is_refused limit x ≡ (s && ltb 0 a) || is_above limit (over a c)
  unfolding is_refused
  value-refused nan v = absurd v
  value-refused (inf t) v = absurd v
  value-refused (fin t m e) v =
      let one : m * (up e * c) ≡ a * down e = omega (arith, v.1) in
      let sign : ltb 0 m ≡ ltb 0 a =
      same_test 0 m 0 a (some-too m (up e * c) a (down e) (mul-pos (up_pos e) some) one) (some-too a (down e) m (up e * c) (down_pos e) (sym one)) in
      rw (v.0, sign, above_same limit (m * up e) (down e) a c (down_pos e) some v.1)

  pub value-thousandths : (x : Float) → HasValue x s a c → thousandths (exact x) ≡ thousandths (over a c)
  value-thousandths nan v = absurd v
  value-thousandths (inf t) v = absurd v
  value-thousandths (fin t m e) v = thousandths-same (m * up e) (down e) a c (down_pos e) some v.1

  -- one that is not below zero is converted as its value is
  pub value-converted : (x : Float) → HasValue x s a c → s && ltb 0 a ≡ false → conversion_of limit (Number x) ≡ fraction_conversion limit (over a c)
  unfolding conversion_of fraction_conversion
  value-converted x v e = rw (value-refused x v, e, value-thousandths x v)

-- a double that is refused
pub refused-double : (limit : ℕ) (x : Float) → is_refused limit x ≡ true → conversion_in (Err WrongCell) ≡ conversion_of limit (Number x)
unfolding conversion_of
refused-double limit x e = rw e
