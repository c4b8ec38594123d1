-- Which bits spell a NaN. Assumes nothing.
use mathlib.Core.Bool.{Bool, true, not, true≢false}
use mathlib.Core.Path.{◌≡◌, ◌∙◌, refl, sym, subst}
use Prim.Native.Nat.{ℕ, ◌%◌, ◌≤◌, ◌<◌}
use borrow.Author.Tests.{lt-ltb, le-ltb}
use lib.Dec.{T}
use lib.Ieee.{Float, nan, inf, fin, binary64, is_nan, nan_bits, of_bits}
use lib.Ieee.Bits.{nan_bits_is, nan_bits_above}

is-nan : (x : Float) → is_nan x ≡ true → x ≡ nan
unfolding is_nan
is-nan nan e = refl
is-nan (inf s) e = absurd (true≢false (sym e))
is-nan (fin s m k) e = absurd (true≢false (sym e))

-- the weight of the sign, and the bits of infinity, which are the last without the sign that spell a number
abbrev sign_weight : ℕ
sign_weight = 9_223_372_036_854_775_808

abbrev infinity_bits : ℕ
infinity_bits = 9_218_868_437_227_405_312

pub nan-spelled : (b : ℕ) → infinity_bits < b % sign_weight → nan ≡ of_bits binary64 b
nan-spelled b h = sym (is-nan (of_bits binary64 b) (sym (nan_bits_is binary64 b) ∙ nan_bits_above binary64 b ∙ lt-ltb _ _ h))

pub number_spelled : (b : ℕ) → b % sign_weight ≤ infinity_bits → T (not (nan_bits binary64 b))
number_spelled b h = subst (λ (t : Bool). T (not t)) (sym (nan_bits_above binary64 b ∙ le-ltb _ _ h)) tt
