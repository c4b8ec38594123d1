-- Laws of tests joined by `&&`, and of choices by a test. Assumes nothing.
use mathlib.Core.Bool.{Bool, true, false, cond}
use mathlib.Core.Path.{◌≡◌, refl}
use Prim.Native.Nat.{ℕ, ◌≤◌}
use native.Mathlib.Omega.{arith}
use Rattle.std.proofs.Common.{Some, None}

pub cond_same : {A : Type 0} (t : Bool) (x : A) → cond t x x ≡ x
cond_same true x = refl
cond_same false x = refl

-- what a choice of something or nothing tells of its test
pub chosen-some : {A : Type 0} (t : Bool) {x y : A} → cond t (Some x) None ≡ Some y → (t ≡ true) × (y ≡ x)
chosen-some true e = (refl, cc)
chosen-some false e = cc

pub chosen-none : {A : Type 0} (t : Bool) (x : A) → cond t (Some x) None ≡ None → t ≡ false
chosen-none true x e = cc
chosen-none false x e = refl

-- what is added where a test holds, by what the test tells
pub cond-cong : (t : Bool) (x y : ℕ) → (t ≡ true → x ≡ y) → cond t x 0 ≡ cond t y 0
cond-cong true x y e = e refl
cond-cong false x y e = refl

-- it is no more than the whole
pub cond-most : (t : Bool) (n : ℕ) → cond t n 0 ≤ n
cond-most true n = omega arith
cond-most false n = omega arith
