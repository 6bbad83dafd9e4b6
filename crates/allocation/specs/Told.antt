-- The figures that the filings of two parties tell, as the code reads them.
use Rattle.std.specs.Prelude.{◌≡◌, ℕ, ◌<◌, ◌≤◌, cond, ◌&&◌, List, [], Some, None, Option, ◌==◌, slice_index_or}
use Rattle.std.specs.Option.{option_map}
use Rattle.energy.specs.declared.unit.Kwh.{Kwh}
use Rattle.energy.specs.Grids.{figure_at}
use Rattle.allocation.specs.Trades.{alike}
use Rattle.allocation.specs.declared.cell.Amounts.{Amounts}
use Rattle.allocation.specs.declared.cell.Cell.{Cell}

-- The validated trade of a direction, and the agreed match.
abbrev pub told_ns : Cell → ℕ
told_ns c = alike (option_map (λ x. x.ns.0) c.north_trade) (option_map (λ x. x.ns.0) c.south_trade)

abbrev pub told_sn : Cell → ℕ
told_sn c = alike (option_map (λ x. x.sn.0) c.north_trade) (option_map (λ x. x.sn.0) c.south_trade)

-- As `same_four` of two rows, of the amounts of each.
abbrev pub told_four : Option Amounts → Option Amounts → ℕ
told_four None o = 0
told_four (Some a) None = 0
told_four (Some a) (Some b) = cond (a.ns.0 == a.sn.0 && (a.ns.0 == b.ns.0 && a.ns.0 == b.sn.0)) a.ns.0 0

abbrev pub told_match : Cell → ℕ
told_match c = told_four c.north_match c.south_match

-- The figure of a row and a column, nil outside the square.
abbrev pub grid_at : List (List Kwh) → ℕ → ℕ → ℕ
grid_at g i j = figure_at (slice_index_or g i []) j

-- The 16 figures of a row are those of a function of the place.
abbrev pub IsRow : List Kwh → (ℕ → ℕ) → Type 0
IsRow row figures = (k : ℕ) → k < 16 → figure_at row k ≡ figures k

-- Figures by row and column are nil past the 16th column.
abbrev pub Within16 : (ℕ → ℕ → ℕ) → Type 0
Within16 figures = (i j : ℕ) → 16 ≤ j → figures i j ≡ 0
