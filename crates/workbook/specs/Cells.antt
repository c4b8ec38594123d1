-- "A cell is blank, one double, or a span of two doubles such as the default ranges of Annex I." Its grounds, and what it becomes.
-- Assumes nothing.
use Rattle.std.specs.Prelude.{true, ◌||◌, List, [], ◌∷◌, ℕ, ◌+◌}
use Rattle.std.specs.Float.Ieee.{lt}
use Rattle.apportion.specs.Fractions.{nearest}
use Rattle.apportion.specs.Grounds.{Ground, first_of}
use Rattle.workbook.specs.declared.cells.Cell.{Cell}
use Rattle.workbook.specs.declared.cells.Cell.TheVariants.{Blank, Number, Span}
use Rattle.workbook.specs.Doubles.{exact, thousandths, is_refused}

-- "The limits are 10^9 for a quantity and 10^7 for a factor"
abbrev pub quantity_limit : ℕ
quantity_limit = 1_000_000_000

abbrev pub factor_limit : ℕ
factor_limit = 10_000_000

-- "It refuses with 15 a blank cell or a double that is not finite, is below zero or is above its limit, and with 16 a span whose second
-- double is below its first, .. 15 before 16 within a cell". The library's `lt` compares the exact values of two doubles
abbrev pub cell_grounds : ℕ → Cell → List Ground
cell_grounds limit Blank = (15, true) ∷ []
cell_grounds limit (Number x) = (15, is_refused limit x) ∷ []
cell_grounds limit (Span x y) = (15, is_refused limit x || is_refused limit y) ∷ (16, lt y x) ∷ []

abbrev pub cell_refusal : ℕ → Cell → ℕ
cell_refusal limit cell = first_of (cell_grounds limit cell)

-- "A span becomes the mean of its two converted ends", to the nearest whole number; halves by document 02's "also the mean of a span"
abbrev pub mean : ℕ → ℕ → ℕ
mean a b = nearest (a + b) 2

-- what a cell becomes, in thousandths. Of a blank one it is 0, which nothing takes
abbrev pub cell_value : Cell → ℕ
cell_value Blank = 0
cell_value (Number x) = thousandths (exact x)
cell_value (Span x y) = mean (thousandths (exact x)) (thousandths (exact y))
