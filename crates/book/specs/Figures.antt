-- The kWh figures that rows tell.
use Rattle.std.specs.Prelude.{ℕ, ◌+◌, cond}
use Rattle.book.specs.FiledRows.{filed_fit}
use Rattle.book.specs.ReadingRows.{reading_fit}
use Rattle.book.specs.declared.filed_row.FiledRow.{FiledRow}
use Rattle.book.specs.declared.reading_row.ReadingRow.{ReadingRow}

-- A filed entry tells what was filed in both directions, and a row that fails the check nothing.
abbrev pub filed_figure : FiledRow → ℕ
filed_figure x = cond (filed_fit x) (x.ns.0 + x.sn.0) 0

-- A reading tells what the supplier nominated and generated, and a row that fails the check nothing.
abbrev pub reading_figure : ReadingRow → ℕ
reading_figure x = cond (reading_fit x) (x.local.0 + x.plg.0) 0
