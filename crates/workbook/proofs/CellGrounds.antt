-- A cell by its grounds, and a line by its cells. Assumes nothing.
use mathlib.Core.Bool.{Bool, true, false, cond, ◌||◌}
use mathlib.Core.List.{List, ◌++◌}
use mathlib.Core.Path.{◌≡◌, ◌∙◌, ap, refl, sym}
use Prim.Native.Nat.{ℕ, zero, suc}
use native.Mathlib.Omega.{arith}
use lib.Dec.{eqb}
use lib.Ieee.{Float, lt}
use Rattle.std.proofs.Common.{Ok, Err}
use Rattle.apportion.specs.Grounds.{accepted, Ground, first_of}
use Rattle.apportion.specs.Refusals.{number_of}
use Rattle.apportion.specs.declared.refusing.Refusal.{Refusal}
use Rattle.apportion.specs.declared.refusing.Refusal.TheVariants.{ReversedSpan}
use Rattle.apportion.proofs.Grounds.{never_given, never_both}
use Rattle.apportion.proofs.Refusals.{number-some, refused-leaves}
use Rattle.workbook.specs.declared.cells.Cell.{Cell}
use Rattle.workbook.specs.declared.cells.Cell.TheVariants.{Blank, Number, Span}
use Rattle.workbook.specs.declared.lines.Line.{Line}
use Rattle.workbook.specs.Doubles.{is_refused}
use Rattle.workbook.specs.Cells.{quantity_limit, factor_limit, cell_grounds, cell_refusal, mean, cell_value}
use Rattle.workbook.specs.Inner.Steps.{Conversion, conversion_in, conversion_by, conversion_of}
use Rattle.workbook.specs.Lines.{line_grounds, line_refusal, converted_line, line_conversion_in}

-- a cell by the answer of its conversion
cell_refused : (limit : ℕ) (cell : Cell) (r : Refusal) → conversion_in (Err r) ≡ conversion_of limit cell → number_of r ≡ cell_refusal limit cell
unfolding conversion_of
cell_refused limit cell r e = ap (λ (c : Conversion). c.refusal) e

cell_converted : (limit : ℕ) (cell : Cell) (v : ℕ) → conversion_in (Ok v) ≡ conversion_of limit cell → (cell_refusal limit cell ≡ 0) × (v ≡ cell_value cell)
unfolding conversion_of
cell_converted limit cell v e = go (cell_refusal limit cell) e
  where
    go : (n : ℕ) → conversion_in (Ok v) ≡ conversion_by n (cell_value cell) → (n ≡ 0) × (v ≡ cell_value cell)
    go zero e = (refl, ap (λ (c : Conversion). c.value) e)
    go (suc n) e = let z = ap (λ (c : Conversion). c.refusal) e in absurd (omega (arith, z))

-- a span whose first double is refused, one whose second is, one that is exchanged, and any other
double-refused : (limit : ℕ) (x : Float) (r : Refusal) → conversion_in (Err r) ≡ conversion_of limit (Number x) → is_refused limit x ≡ true
double-refused limit x r e = go (is_refused limit x) (cell_refused limit (Number x) r e)
  where
    go : (refused : Bool) → number_of r ≡ cond refused 15 0 → refused ≡ true
    go true e = refl
    go false e = absurd (number-some r e)

double-fine : (limit : ℕ) (x : Float) (v : ℕ) → conversion_in (Ok v) ≡ conversion_of limit (Number x) → is_refused limit x ≡ false
double-fine limit x v e = go (is_refused limit x) (cell_converted limit (Number x) v e).0
  where
    go : (refused : Bool) → ◌≡◌ {A = ℕ} (cond refused 15 0) 0 → refused ≡ false
    go true e = let z : ⊥ = omega (arith, e) in absurd z
    go false e = refl

module _ (limit : ℕ) (x y : Float) where
  pub span-first : (r : Refusal) → conversion_in (Err r) ≡ conversion_of limit (Number x) → conversion_in (Err r) ≡ conversion_of limit (Span x y)
  unfolding conversion_of
  span-first r e = e ∙ rw (double-refused limit x r e)

  module _ (a : ℕ) (first : conversion_in (Ok a) ≡ conversion_of limit (Number x)) where
    pub span_second : (r : Refusal) → conversion_in (Err r) ≡ conversion_of limit (Number y) → conversion_in (Err r) ≡ conversion_of limit (Span x y)
    unfolding conversion_of
    span_second r e = e ∙ rw (double-fine limit x a first, double-refused limit y r e)

    module _ (b : ℕ) (second : conversion_in (Ok b) ≡ conversion_of limit (Number y)) where
      pub span-exchanged : lt y x ≡ true → conversion_in (Err ReversedSpan) ≡ conversion_of limit (Span x y)
      unfolding conversion_of
      span-exchanged below = rw (double-fine limit x a first, double-fine limit y b second, below)

      pub span-converted : lt y x ≡ false → conversion_in (Ok (mean a b)) ≡ conversion_of limit (Span x y)
      unfolding conversion_of
      span-converted below =
          rw (
            double-fine limit x a first,
            double-fine limit y b second,
            below,
            (cell_converted limit (Number x) a first).1,
            (cell_converted limit (Number y) b second).1,
          )

-- a cell's grounds decide, or those behind them
cell-first : (limit : ℕ) (cell : Cell) (rest : List Ground)
    → first_of (cell_grounds limit cell ++ rest) ≡ accepted (cell_refusal limit cell) (first_of rest) (cell_refusal limit cell)
cell-first limit Blank rest = refl
cell-first limit (Number x) rest = go (is_refused limit x)
  where
    go : (b : Bool) → cond b 15 (first_of rest) ≡ accepted (cond b 15 0) (first_of rest) (cond b 15 0)
    go true = refl
    go false = refl
cell-first limit (Span x y) rest = go (is_refused limit x || is_refused limit y) (lt y x)
  where
    go : (b d : Bool) → cond b 15 (cond d 16 (first_of rest)) ≡ accepted (cond b 15 (cond d 16 0)) (first_of rest) (cond b 15 (cond d 16 0))
    go true d = refl
    go false true = refl
    go false false = refl

-- a cell gives 15 and 16 alone
cell-never : (number limit : ℕ) (cell : Cell) → eqb number 15 ≡ false → eqb number 16 ≡ false → never_given number (cell_grounds limit cell) ≡ true
cell-never number limit Blank e f = rw e
cell-never number limit (Number x) e f = rw e
cell-never number limit (Span x y) e f = rw (e, f)

-- where the first of three numbers that is not 0 is none, all three are 0
none-of-three : (a b c : ℕ) → accepted a (accepted b c b) a ≡ 0 → (a ≡ 0) × (b ≡ 0) × (c ≡ 0)
none-of-three zero zero c e = (refl, refl, e)
none-of-three zero (suc b) c e = let z : ⊥ = omega (arith, e) in absurd z
none-of-three (suc a) b c e = let z : ⊥ = omega (arith, e) in absurd z

-- a line by its three cells
module _ (line : Line Cell) where
  abbrev quantity_refusal : ℕ
  quantity_refusal = cell_refusal quantity_limit line.quantity

  abbrev operation_refusal : ℕ
  operation_refusal = cell_refusal factor_limit line.operation_factor

  abbrev provision_refusal : ℕ
  provision_refusal = cell_refusal factor_limit line.provision_factor

  refusal-by-cells : line_refusal line ≡ accepted quantity_refusal (accepted operation_refusal provision_refusal operation_refusal) quantity_refusal
  unfolding line_refusal
  refusal-by-cells =
      let p = cell_grounds factor_limit line.provision_factor in
      cell-first quantity_limit line.quantity (cell_grounds factor_limit line.operation_factor ++ p)
      ∙ ap (λ (n : ℕ). accepted quantity_refusal n quantity_refusal) (cell-first factor_limit line.operation_factor p)

  -- a line gives 15 and 16 alone
  pub line-never : (number : ℕ) → eqb number 15 ≡ false → eqb number 16 ≡ false → never_given number (line_grounds line) ≡ true
  line-never number e f =
      let operation = cell_grounds factor_limit line.operation_factor in
      let provision = cell_grounds factor_limit line.provision_factor in
      never_both number (cell_grounds quantity_limit line.quantity) (operation ++ provision) (cell-never number quantity_limit line.quantity e f)
      (never_both number operation provision (cell-never number factor_limit line.operation_factor e f)
      (cell-never number factor_limit line.provision_factor e f))

  -- an accepted line has three accepted cells
  pub cells-accepted : line_refusal line ≡ 0 → (quantity_refusal ≡ 0) × (operation_refusal ≡ 0) × (provision_refusal ≡ 0)
  cells-accepted e = none-of-three quantity_refusal operation_refusal provision_refusal (sym refusal-by-cells ∙ e)

  -- a line is refused as the first of its refused cells is
  refused-by : (r : Refusal) → number_of r ≡ line_refusal line → line_conversion_in (Err r) ≡ converted_line line
  refused-by r is =
      rw (
        ← is,
        refused-leaves r (cell_value line.quantity) 0 refl,
        refused-leaves r (cell_value line.operation_factor) 0 refl,
        refused-leaves r (cell_value line.provision_factor) 0 refl,
      )

  pub quantity_refused : (r : Refusal) → conversion_in (Err r) ≡ conversion_of quantity_limit line.quantity → line_conversion_in (Err r) ≡ converted_line line
  quantity_refused r e =
      let is = cell_refused quantity_limit line.quantity r e in
      refused-by r (is ∙ sym (refused-leaves r (accepted operation_refusal provision_refusal operation_refusal) quantity_refusal is) ∙ sym refusal-by-cells)

  module _ (q : ℕ) (quantity : conversion_in (Ok q) ≡ conversion_of quantity_limit line.quantity) where
    pub operation_refused : (r : Refusal) → conversion_in (Err r) ≡ conversion_of factor_limit line.operation_factor
        → line_conversion_in (Err r) ≡ converted_line line
    operation_refused r e =
        let is = cell_refused factor_limit line.operation_factor r e in
        let fine = (cell_converted quantity_limit line.quantity q quantity).0 in
        refused-by r (is ∙ sym (refused-leaves r provision_refusal operation_refusal is) ∙ sym (refusal-by-cells ∙ rw fine))

    module _ (o : ℕ) (operation : conversion_in (Ok o) ≡ conversion_of factor_limit line.operation_factor) where
      pub provision_refused : (r : Refusal) → conversion_in (Err r) ≡ conversion_of factor_limit line.provision_factor
          → line_conversion_in (Err r) ≡ converted_line line
      provision_refused r e =
          let is = cell_refused factor_limit line.provision_factor r e in
          let first = (cell_converted quantity_limit line.quantity q quantity).0 in
          let second = (cell_converted factor_limit line.operation_factor o operation).0 in
          refused-by r (is ∙ sym (refusal-by-cells ∙ rw (first, second)))

      -- and converted where no cell is refused
      pub line-converted : (p : ℕ) → conversion_in (Ok p) ≡ conversion_of factor_limit line.provision_factor
          → line_conversion_in (Ok (record { quantity = q; operation_factor = o; provision_factor = p })) ≡ converted_line line
      line-converted p provision =
          let first = cell_converted quantity_limit line.quantity q quantity in
          let second = cell_converted factor_limit line.operation_factor o operation in
          let third = cell_converted factor_limit line.provision_factor p provision in
          rw (refusal-by-cells, first.0, second.0, third.0, first.1, second.1, third.1)
