-- Filings as the code holds them: a square of 16 by 16 cells.
use Rattle.std.specs.Prelude.{ℕ, Bool, ◌&&◌, List, [], ◌==◌, slice_index_or, replicate}
use Rattle.book.specs.FiledRows.{filed_fit}
use Rattle.book.specs.declared.filed_row.FiledRow.{FiledRow}
use Rattle.allocation.specs.Cells.{cell_of}
use Rattle.allocation.specs.declared.cell.Cell.{Cell}

-- The cell of a Northern and a Southern party, empty outside the square.
abbrev pub cell_in : List (List Cell) → ℕ → ℕ → Cell
cell_in cells n s = slice_index_or (slice_index_or cells n []) s (cell_of [] 0 0 0)

-- A square of 16 by 16 empty cells.
abbrev pub empty_grid : List (List Cell)
empty_grid = replicate 16 (replicate 16 (cell_of [] 0 0 0))

-- A row stands for an entry of a period.
abbrev pub standing : FiledRow → ℕ → Bool
standing x p = filed_fit x && x.period == p
