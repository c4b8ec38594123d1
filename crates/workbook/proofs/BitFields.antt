-- What the bits of a double spell: the sign, the exponent's field and the digits. Assumes nothing.
use mathlib.Core.Bool.{Bool, true, false, cond, ◌&&◌, ◌||◌}
use mathlib.Core.Path.{◌≡◌, ◌∙◌, ap, refl, sym}
use Prim.Native.Nat.{ℕ, zero, suc, ◌+◌, ◌-◌, ◌*◌, ◌/◌, ◌%◌, ◌^◌, ◌≤◌, ◌<◌}
use native.Mathlib.Nat.{mul-one, mul_assoc, mul-pos, mul-le-mul_left, mul-lt-mul_of_pos_right, lt_of_lt_of_le}
use native.Mathlib.Omega.{arith}
use borrow.Author.Tests.{lt-ltb, le-ltb, le-leb, lt-leb, leb-true, ne_eqb}
use lib.Dec.{eqb, leb, ltb}
use lib.Pow.{pow-add, pow_mono, pow_pos}
use lib.Ieee.{Float, nan, inf, binary64, odd, of_bits, of_fields}
use lib.Ieee.Exact.{HasValue, odd_sign}
use Rattle.std.proofs.Common.{Err}
use Rattle.apportion.specs.Fractions.{over}
use Rattle.apportion.specs.declared.refusing.Refusal.TheVariants.{WrongCell}
use Rattle.workbook.specs.declared.cells.Cell.TheVariants.{Number}
use Rattle.workbook.specs.Doubles.{is_above, is_refused}
use Rattle.workbook.specs.Inner.Steps.{conversion_in, conversion_of, fraction_conversion}
use Rattle.workbook.proofs.SameValue.{fraction-same, value-refused, value-converted, refused-double}

-- the weights of the sign and of the leading digit, and the field of what is not finite
abbrev sign_weight : ℕ
sign_weight = 9_223_372_036_854_775_808

abbrev leading_weight : ℕ
leading_weight = 4_503_599_627_370_496

abbrev last_field : ℕ
last_field = 2047

-- the field and the digits of a pattern
abbrev pub field_of : ℕ → ℕ
field_of b = b % sign_weight / leading_weight

abbrev pub digits_of : ℕ → ℕ
digits_of b = b % leading_weight

spelled : (b field : ℕ) → field_of b ≡ field → of_bits binary64 b ≡ of_fields binary64 (leb sign_weight b) field (digits_of b)
unfolding of_bits
spelled b field is = rw (← is)

-- with a field of 0 there is no leading digit
low_value : (s : Bool) (t : ℕ) → HasValue (of_fields binary64 s 0 t) s (t * 1) (2 ^ 1074)
unfolding of_fields
low_value s t = odd_sign 53 s t 0 1074

-- with another there is one, or the double is not finite
fields-refused : (limit : ℕ) (s : Bool) (x t : ℕ)
    → (s && ltb 0 ((leading_weight + t) * 2 ^ x)) || is_above limit (over ((leading_weight + t) * 2 ^ x) (2 ^ 1074)) ≡ true
    → is_refused limit (of_fields binary64 s (suc x) t) ≡ true
unfolding of_fields is_refused
fields-refused limit s x t h = go (eqb (suc x) last_field) (eqb t 0)
  where
    go : (last none : Bool) → is_refused limit (cond last (cond none (inf s) nan) (odd 53 s (leading_weight + t) x 1074)) ≡ true
    go true true = refl
    go true false = refl
    go false none =
        value-refused limit s ((leading_weight + t) * 2 ^ x) (2 ^ 1074) (pow_pos 1074) (odd 53 s (leading_weight + t) x 1074) (odd_sign 53 s (leading_weight + t) x 1074) ∙ h

value : (s : Bool) (x t : ℕ) → suc x < last_field → HasValue (of_fields binary64 s (suc x) t) s ((leading_weight + t) * 2 ^ x) (2 ^ 1074)
unfolding of_fields
value s x t finite = rw (ne_eqb (suc x) last_field (λ e. omega (arith, e))) (odd_sign 53 s (leading_weight + t) x 1074)

module _ (limit b : ℕ) where
  -- what is below zero or not finite is refused
  pub negative-refused : sign_weight < b → b < 2 * sign_weight → conversion_in (Err WrongCell) ≡ conversion_of limit (Number (of_bits binary64 b))
  negative-refused low high =
      refused-double limit (of_bits binary64 b) (rw (spelled b (field_of b) refl, le-leb sign_weight b (omega arith)) (go (field_of b) refl))
    where
      go : (field : ℕ) → field_of b ≡ field → is_refused limit (of_fields binary64 true field (digits_of b)) ≡ true
      go zero is =
          let some : 0 < digits_of b * 1 = omega (arith, is) in
          value-refused limit true (digits_of b * 1) (2 ^ 1074) (pow_pos 1074) (of_fields binary64 true 0 (digits_of b)) (low_value true (digits_of b))
          ∙ rw (lt-ltb 0 (digits_of b * 1) some)
      go (suc x) is =
          let q = leading_weight + digits_of b in
          let some : 0 < q * 2 ^ x = mul-pos (omega arith) (pow_pos x) in
          fields-refused limit true x (digits_of b) (rw (lt-ltb 0 (q * 2 ^ x) some))

  -- so is what has a field above 1074
  pub large-refused : limit < leading_weight → b ≤ sign_weight → 1074 < field_of b → conversion_in (Err WrongCell) ≡ conversion_of limit (Number (of_bits binary64 b))
  large-refused small low high =
      refused-double limit (of_bits binary64 b) (rw (spelled b (field_of b) refl, lt-leb sign_weight b (omega arith)) (go (field_of b) high))
    where
      go : (field : ℕ) → 1074 < field → is_refused limit (of_fields binary64 false field (digits_of b)) ≡ true
      go zero h = let z : ⊥ = omega arith in absurd z
      go (suc x) h =
          let q = leading_weight + digits_of b in
          let less : limit < q = omega arith in
          let up : 1074 ≤ x = omega arith in
          fields-refused limit false x (digits_of b)
          (lt-ltb (limit * 2 ^ 1074) (q * 2 ^ x)
          (lt_of_lt_of_le (mul-lt-mul_of_pos_right less (pow_pos 1074)) (mul-le-mul_left q (pow_mono {i = 1074} {j = x} up))))

  -- without a leading digit
  pub low-converted : b ≤ sign_weight → field_of b ≡ 0 → fraction_conversion limit (over (digits_of b) (2 ^ 1074)) ≡ conversion_of limit (Number (of_bits binary64 b))
  low-converted low is =
      let t = digits_of b in
      sym
      (ap (λ (x : Float). conversion_of limit (Number x)) (spelled b 0 is)
      ∙ value-converted limit (leb sign_weight b) (t * 1) (2 ^ 1074) (pow_pos 1074) (of_fields binary64 (leb sign_weight b) 0 t) (low_value (leb sign_weight b) t) (unsigned (leb sign_weight b) refl)
      ∙ ap (λ (n : ℕ). fraction_conversion limit (over n (2 ^ 1074))) (mul-one t))
    where
      unsigned : (s : Bool) → leb sign_weight b ≡ s → s && ltb 0 (digits_of b * 1) ≡ false
      unsigned true is = le-ltb 0 (digits_of b * 1) (omega (arith, leb-true sign_weight b is))
      unsigned false is = refl

  -- with it
  pub converted : b ≤ sign_weight → 0 < field_of b → field_of b ≤ 1074
      → fraction_conversion limit (over (leading_weight + digits_of b) (2 ^ (1075 - field_of b))) ≡ conversion_of limit (Number (of_bits binary64 b))
  converted low some high = go (field_of b) refl some high
    where
      go : (field : ℕ) → field_of b ≡ field → 0 < field → field ≤ 1074
          → fraction_conversion limit (over (leading_weight + digits_of b) (2 ^ (1075 - field))) ≡ conversion_of limit (Number (of_bits binary64 b))
      go zero is some h = let z : ⊥ = omega arith in absurd z
      go (suc x) is some h =
          let q = leading_weight + digits_of b in
          let places = 1075 - suc x in
          let positive : leb sign_weight b ≡ false = lt-leb sign_weight b (omega (arith, is)) in
          let all : x + places ≡ 1074 = omega arith in
          let there : 2 ^ x * 2 ^ places ≡ 2 ^ 1074 = sym (pow-add 2 x places) ∙ ap (λ (n : ℕ). 2 ^ n) all in
          fraction-same limit q (2 ^ places) (q * 2 ^ x) (2 ^ 1074) (pow_pos places) (pow_pos 1074)
          (ap (λ (n : ℕ). q * n) (sym there) ∙ sym (mul_assoc q (2 ^ x) (2 ^ places)))
          ∙ sym
          (ap (λ (y : Float). conversion_of limit (Number y)) (spelled b (suc x) is ∙ ap (λ (s : Bool). of_fields binary64 s (suc x) (digits_of b)) positive)
          ∙ value-converted limit false (q * 2 ^ x) (2 ^ 1074) (pow_pos 1074) (of_fields binary64 false (suc x) (digits_of b))
          (value false x (digits_of b) (omega arith)) refl)
