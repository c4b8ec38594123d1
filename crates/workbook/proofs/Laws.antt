-- The laws of conversion. Assumes nothing.
use mathlib.Core.Bool.{Bool, true, false, cond, not, ◌||◌}
use mathlib.Core.Path.{◌≡◌, ◌∙◌, ap, refl, sym}
use Prim.Native.Nat.{ℕ, ◌+◌, ◌*◌, ◌≤◌, ◌<◌}
use native.Mathlib.Nat.{mul-one}
use native.Mathlib.Omega.{arith}
use borrow.Author.Tests.{ltb-false, le-ltb}
use lib.IntN.{pos}
use lib.Ieee.{Float, nan, inf, fin, lt, binary64, of_int}
use lib.Ieee.Back.{round_whole}
use lib.Ieee.Exact.{HasValue}
use lib.Ieee.Fits.{down_pos}
use Rattle.apportion.specs.Fractions.{nearest, over}
use Rattle.apportion.specs.Nearness.{WithinHalf, EvenAtHalf}
use Rattle.apportion.proofs.Grounds.{or-none}
use Rattle.apportion.proofs.Rounding.{nearest-near, nearest-even, nearest-most, nearest-exact}
use Rattle.workbook.specs.declared.cells.Cell.{Cell}
use Rattle.workbook.specs.declared.cells.Cell.TheVariants.{Blank, Number, Span}
use Rattle.workbook.specs.declared.lines.Line.{Line}
use Rattle.workbook.specs.Doubles.{exact, thousandths, is_finite, is_below_zero, is_above, is_refused}
use Rattle.workbook.specs.Cells.{quantity_limit, factor_limit, cell_refusal, mean, cell_value}
use Rattle.workbook.specs.Lines.{line_refusal}
use Rattle.workbook.proofs.SameValue.{value-refused, value-thousandths}
use Rattle.workbook.proofs.CellGrounds.{cells-accepted}
pub use Rattle.workbook.proofs.CellGrounds.{line-never}

-- The exact value of a double is a fraction with a denominator above 0, and what the double becomes is at most half a thousandth from it;
-- what a span becomes is at most half a thousandth from the mean of its two converted ends.
pub some-denominator : (x : Float) → 0 < (exact x).denominator
some-denominator nan = omega arith
some-denominator (inf s) = omega arith
some-denominator (fin s m e) = down_pos e

pub double-near : (x : Float) → WithinHalf (thousandths (exact x)) (1000 * (exact x).numerator) (exact x).denominator
double-near x = nearest-near (1000 * (exact x).numerator) (exact x).denominator (some-denominator x)

pub mean-near : (a b : ℕ) → WithinHalf (mean a b) (a + b) 2
mean-near a b = nearest-near (a + b) 2 (omega arith)

-- Where the one is a whole number of thousandths and a half, or the other is, the even one is taken.
pub double-even : (x : Float) → EvenAtHalf (thousandths (exact x)) (1000 * (exact x).numerator) (exact x).denominator
double-even x = nearest-even (1000 * (exact x).numerator) (exact x).denominator (some-denominator x)

pub mean-even : (a b : ℕ) → EvenAtHalf (mean a b) (a + b) 2
mean-even a b = nearest-even (a + b) 2 (omega arith)

-- A double that is not refused is within its limit, and so are its thousandths.
within-limit : (limit : ℕ) (x : Float) → is_refused limit x ≡ false → thousandths (exact x) ≤ 1000 * limit
unfolding is_refused
within-limit limit x e =
    let none = or-none (not (is_finite x) || is_below_zero x) (is_above limit (exact x)) e in
    let within = ltb-false (limit * (exact x).denominator) (exact x).numerator none.1 in
    nearest-most (1000 * (exact x).numerator) (exact x).denominator (1000 * limit) (some-denominator x) (omega (arith, within))

pub cell-most : (limit : ℕ) (cell : Cell) → cell_refusal limit cell ≡ 0 → cell_value cell ≤ 1000 * limit
cell-most limit Blank e = let z : ⊥ = omega (arith, e) in absurd z
cell-most limit (Number x) e = go (is_refused limit x) refl e
  where
    go : (b : Bool) → is_refused limit x ≡ b → ◌≡◌ {A = ℕ} (cond b 15 0) 0 → thousandths (exact x) ≤ 1000 * limit
    go true is e = let z : ⊥ = omega (arith, e) in absurd z
    go false is e = within-limit limit x is
cell-most limit (Span x y) e = go (is_refused limit x || is_refused limit y) refl e
  where
    go : (b : Bool) → is_refused limit x || is_refused limit y ≡ b → ◌≡◌ {A = ℕ} (cond b 15 (cond (lt y x) 16 0)) 0
        → mean (thousandths (exact x)) (thousandths (exact y)) ≤ 1000 * limit
    go true is e = let z : ⊥ = omega (arith, e) in absurd z
    go false is e =
        let both = or-none (is_refused limit x) (is_refused limit y) is in
        let a = within-limit limit x both.0 in
        let b = within-limit limit y both.1 in
        nearest-most (thousandths (exact x) + thousandths (exact y)) 2 (1000 * limit) (omega arith) (omega (arith, a, b))

-- The measures of an accepted line: a quantity of at most 10^12, and factors of at most 10^10.
pub line-most : (line : Line Cell) → line_refusal line ≡ 0
    → (cell_value line.quantity ≤ 1_000_000_000_000)
    × (cell_value line.operation_factor ≤ 10_000_000_000)
    × (cell_value line.provision_factor ≤ 10_000_000_000)
line-most line e =
    let each = cells-accepted line e in (
      cell-most quantity_limit line.quantity each.0,
      cell-most factor_limit line.operation_factor each.1,
      cell-most factor_limit line.provision_factor each.2,
    )

-- A whole number of units within its limit is not refused and becomes exactly 1,000 times itself: as every double that has this value,
pub whole-converted : (limit k : ℕ) (x : Float) → HasValue x false k 1 → k ≤ limit
    → (cell_refusal limit (Number x) ≡ 0) × (cell_value (Number x) ≡ 1000 * k)
whole-converted limit k x v h =
    (rw (value-refused limit false k 1 (omega arith) x v, le-ltb (limit * 1) k (omega arith)), value-thousandths limit false k 1 (omega arith) x v ∙ whole)
  where
    whole : thousandths (over k 1) ≡ 1000 * k
    whole = ap (λ (n : ℕ). nearest n 1) (sym (mul-one (1000 * k))) ∙ nearest-exact (1000 * k) 1 (omega arith)

-- and every whole number up to 10^9 is such a double.
pub whole-double : (k : ℕ) → k ≤ quantity_limit → HasValue (of_int binary64 (pos k)) false k 1
unfolding of_int
whole-double k h = round_whole binary64 false k (omega arith)
