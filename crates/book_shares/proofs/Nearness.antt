-- Sums, parts and other forms of fractions that a number is near to. Assumes nothing.
use Prim.Native.Nat.{ℕ, zero, suc, ◌+◌, ◌*◌, ◌≤◌, ◌<◌}
use native.Mathlib.Nat.{mul-le-mul_right, lt_of_mul-lt-mul_right}
use native.Mathlib.Omega.{arith}
use Rattle.apportion.specs.Nearness.{Within}

-- a number is near to a fraction only where the denominator is above 0
pub near-some : {k s n d : ℕ} → Within k s n d → 0 < d
near-some {d = zero} h = omega (arith, h.below)
near-some {d = suc d} h = omega arith

-- a share of a share: x is a share of n / d, and s that of x by a / t
pub near-chain : {s x n d a t : ℕ} → Within 1 x n d → Within 1 s (x * a) t → a ≤ t → Within 2 s (n * a) (d * t)
near-chain {d = d} {a = a} first second part =
    omega (
      arith,
      near-some first,
      mul-le-mul_right a first.above,
      mul-le-mul_right a first.below,
      mul-le-mul_right d second.above,
      mul-le-mul_right d second.below,
      mul-le-mul_right d part,
    )

-- a factor of both terms of the fraction
pub near-cancel : {k s n d : ℕ} (f : ℕ) → Within k s (n * f) (d * f) → Within k s n d
near-cancel f h =
    record {
      above = lt_of_mul-lt-mul_right f (omega (arith, h.above));
      below = lt_of_mul-lt-mul_right f (omega (arith, h.below));
    }

-- two numbers, each near to a fraction of its own
pub near-plus : {j k s t n m d e : ℕ} → Within j s n d → Within k t m e → Within (j + k) (s + t) (n * e + m * d) (d * e)
near-plus {d = d} {e = e} first second =
    omega (
      arith,
      near-some first,
      mul-le-mul_right e first.above,
      mul-le-mul_right e first.below,
      mul-le-mul_right d second.above,
      mul-le-mul_right d second.below,
    )

-- less than j units away is less than more units away
pub near-weaken : {j k s n d : ℕ} → j ≤ k → Within j s n d → Within k s n d
near-weaken {d = d} more h = omega (arith, h, mul-le-mul_right d more)
