-- Operations 16 and 17: the listed cells of a line. Assumes nothing.
use Rattle.std.specs.Prelude.{ℕ, cond, List, [], ◌∷◌, ◌++◌, eqb, get_or, take}
use Rattle.std.specs.Float.{binary64}
use Rattle.std.specs.Float.Ieee.{of_bits}
use Rattle.workbook.specs.declared.cells.Cell.{Cell}
use Rattle.workbook.specs.declared.cells.Cell.TheVariants.{Blank, Number, Span}
use Rattle.workbook.specs.declared.lines.Line.{Line}
use Rattle.replay.specs.declared.records.Words.{Words}

-- a cell by its form, 0 blank, 1 a number, else a span, and the bits of its doubles
abbrev pub cell_of : Words → Cell
cell_of words =
    cond (eqb words.first 0) Blank
    (cond (eqb words.first 1) (Number (of_bits binary64 words.second))
    (Span (of_bits binary64 words.second) (of_bits binary64 words.third)))

-- a line of listed cells, from the left; where they are fewer than three, the others are blank
abbrev pub listed_line : List Cell → Line Cell
listed_line cells =
    record { quantity = get_or cells 0 Blank; operation_factor = get_or cells 1 Blank; provision_factor = get_or cells 2 Blank }

-- the listed cells and one more, of which there is room for three
abbrev pub with_cell : Cell → List Cell → List Cell
with_cell cell cells = take 2 cells ++ (cell ∷ [])

-- the listed cells after an operation: 16 lists one, 17 uses them up
abbrev pub cells_after : ℕ → Words → List Cell → List Cell
cells_after operation words cells =
    cond (eqb operation 16) (with_cell (cell_of words) cells) (cond (eqb operation 17) [] cells)
