-- Laws of rounding to the nearest whole number, halves to the even one. Assumes nothing.
use mathlib.Core.Bool.{not}
use mathlib.Core.Logic.{⊎_elim}
use mathlib.Core.Path.{◌≡◌, ◌∙◌, ap, refl, sym, subst}
use Prim.Native.Nat.{ℕ, ◌+◌, ◌*◌, ◌/◌, ◌%◌, ◌≤◌, ◌<◌, compare, Ordering}
use native.Mathlib.Nat.{add-zero, div-add-mod', mod-lt, lt_of_mul-lt-mul_right, mul-le-mul_right}
use native.Mathlib.Numerals.{add-one}
use native.Mathlib.Omega.{arith}
use lib.Arith.{digits_div, digits_mod, lt_of_le-ne}
use lib.Dec.{T, is_le, compare_is_eq, eqb, leb→le, nleb→lt, eqb→eq, eqb_refl}
use lib.Ieee.{nearest as ties_to_even}
use lib.Ieee.Nearest.{closest, closest_mono, closest_same}
use borrow.Author.Tests.{lt-ltb, le-ltb}
use Rattle.apportion.specs.Fractions.{nearest, added_by_rounding}
use Rattle.apportion.specs.Nearness.{WithinHalf, EvenAtHalf}
use Rattle.apportion.proofs.Sums.{order}

-- what rounding adds: nothing below the half, 1 above it, and at the half what makes the quotient even
module _ (q r d : ℕ) where
  pub below_half : 2 * r < d → added_by_rounding q r d ≡ 0
  unfolding added_by_rounding
  below_half h = rw (lt-ltb (2 * r) d h)

  pub above_half : d < 2 * r → added_by_rounding q r d ≡ 1
  unfolding added_by_rounding
  above_half h = rw (le-ltb (2 * r) d (omega arith), lt-ltb d (2 * r) h)

  pub at-half : 2 * r ≡ d → added_by_rounding q r d ≡ q % 2
  unfolding added_by_rounding
  at-half h = rw (le-ltb (2 * r) d (omega arith), le-ltb d (2 * r) (omega arith))

  -- the quotient of a number, with what rounding adds to it, is the number rounded
  pub rounded : r < d → q + added_by_rounding q r d ≡ nearest (q * d + r) d
  unfolding nearest
  rounded h = rw (digits_div q {m = d} {r = r} h, digits_mod q {m = d} {r = r} h)

  rounded-near : r < d → WithinHalf (q + added_by_rounding q r d) (q * d + r) d
  rounded-near h =
      ⊎_elim
      (λ (below : 2 * r < d). rw (below_half below) (record { above = omega arith; below = omega arith }))
      (⊎_elim
      (λ (half : 2 * r ≡ d).
      let least : q % 2 * d ≤ 1 * d = mul-le-mul_right d (omega arith) in
      rw (at-half half) (record { above = omega (arith, least); below = omega (arith, half) }))
      (λ (above : d < 2 * r). rw (above_half above) (record { above = omega arith; below = omega arith })))
      (order (2 * r) d)

  -- at a half the remainder is half of the divisor
  half-left : r < d → (k : ℕ) → 2 * (q * d + r) ≡ (2 * k + 1) * d → 2 * r ≡ d
  half-left h k e =
      ⊎_elim
      (λ (l : k < q). let more : (k + 1) * d ≤ q * d = mul-le-mul_right d (omega arith) in omega (arith, e, more))
      (⊎_elim
      (λ (same : k ≡ q). omega (arith, e, ap (λ (n : ℕ). n * d) same))
      (λ (l : q < k). let more : (q + 1) * d ≤ k * d = mul-le-mul_right d (omega arith) in omega (arith, e, more)))
      (order k q)

  -- the library's rounding, by its comparison of twice the remainder with the divisor
  rounded-ties : q + added_by_rounding q r d ≡ ties_to_even q (compare (r * 2) d)
  rounded-ties =
      go (compare (r * 2) d) (leb→le (r * 2) d) (nleb→lt (r * 2) d) (eqb→eq (r * 2) d)
      (λ (e : r * 2 ≡ d). subst (λ (m : ℕ). T (eqb (r * 2) m)) e (eqb_refl (r * 2)))
    where
      go : (o : Ordering) → (T (is_le o) → r * 2 ≤ d) → (T (not (is_le o)) → d < r * 2) → (T (compare_is_eq o) → r * 2 ≡ d) → (r * 2 ≡ d → T (compare_is_eq o))
          → q + added_by_rounding q r d ≡ ties_to_even q o
      go Ordering.lt le gt eq same = rw (below_half (omega (arith, lt_of_le-ne (le tt) same))) (add-zero q)
      go Ordering.eq le gt eq same = rw (at-half (omega (arith, eq tt)))
      go Ordering.gt le gt eq same = rw (above_half (omega (arith, gt tt))) (add-one q)

  rounded-even : r < d → EvenAtHalf (q + added_by_rounding q r d) (q * d + r) d
  rounded-even h k e = rw (at-half (half-left h k e)) (omega arith)

-- what is rounded is at most half a unit from the fraction
pub nearest-near : (n d : ℕ) → 0 < d → WithinHalf (nearest n d) n d
unfolding nearest
nearest-near n d some =
    subst (λ (m : ℕ). WithinHalf (nearest n d) m d) (div-add-mod' n d) (rounded-near (n / d) (n % d) d (mod-lt n some))

-- at a half it is even
pub nearest-even : (n d : ℕ) → 0 < d → EvenAtHalf (nearest n d) n d
unfolding nearest
nearest-even n d some =
    subst (λ (m : ℕ). EvenAtHalf (nearest n d) m d) (div-add-mod' n d) (rounded-even (n / d) (n % d) d (mod-lt n some))

-- no other number is both
two-nearest : (x y n d : ℕ) → 0 < d → WithinHalf x n d → EvenAtHalf x n d → WithinHalf y n d → EvenAtHalf y n d → x < y → ⊥
two-nearest x y n d some near even near' even' l =
    let more : (x + 1) * d ≤ y * d = mul-le-mul_right d (omega arith) in
    let half : 2 * n ≡ (2 * x + 1) * d = omega (arith, more, near.below, near'.above) in
    let next : y * d < (x + 2) * d = omega (arith, near.below, near'.above) in
    let under : y < x + 2 = lt_of_mul-lt-mul_right d next in
    omega (arith, even x half, even' x half)

pub nearest-only : (x n d : ℕ) → 0 < d → WithinHalf x n d → EvenAtHalf x n d → x ≡ nearest n d
nearest-only x n d some near even =
    let near' = nearest-near n d some in
    let even' = nearest-even n d some in
    ⊎_elim
    (λ (l : x < nearest n d). absurd (two-nearest x (nearest n d) n d some near even near' even' l))
    (⊎_elim
    (λ (e : x ≡ nearest n d). e)
    (λ (l : nearest n d < x). absurd (two-nearest (nearest n d) x n d some near' even' near even l)))
    (order x (nearest n d))

-- where the divisor divides the number, it is the quotient
pub nearest-exact : (k d : ℕ) → 0 < d → nearest (k * d) d ≡ k
nearest-exact k d some =
    ap (λ (n : ℕ). nearest n d) (sym (add-zero (k * d)))
    ∙ sym (rounded k 0 d some)
    ∙ rw (below_half k 0 d (omega arith)) (add-zero k)

-- below a half it is 0
pub nearest_zero : (n d : ℕ) → 2 * n < d → nearest n d ≡ 0
nearest_zero n d h = sym (nearest-only 0 n d (omega arith) (record { above = omega arith; below = omega arith }) (λ k e. refl))

-- it is the library's rounding of a fraction, a tie to the even number, by which doubles are rounded
pub nearest-closest : (n d : ℕ) → nearest n d ≡ closest n d
unfolding nearest
nearest-closest n d = rounded-ties (n / d) (n % d) d

-- it never falls where the number grows
pub nearest-mono : (m n d : ℕ) → 0 < d → m ≤ n → nearest m d ≤ nearest n d
nearest-mono m n d some h = rw (nearest-closest m d, nearest-closest n d) (closest_mono m d n d some some (mul-le-mul_right d h))

-- within a whole number, it stays within it
pub nearest-most : (n d k : ℕ) → 0 < d → n ≤ k * d → nearest n d ≤ k
nearest-most n d k some h = omega (arith, nearest-mono n (k * d) d some h, nearest-exact k d some)

-- the same fraction, written otherwise, is rounded alike
pub nearest-same : (a b c d : ℕ) → 0 < b → 0 < d → a * d ≡ c * b → nearest a b ≡ nearest c d
nearest-same a b c d some-b some-d e = nearest-closest a b ∙ closest_same a b c d some-b some-d e ∙ sym (nearest-closest c d)
