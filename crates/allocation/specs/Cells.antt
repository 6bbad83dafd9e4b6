-- What two parties filed of each other in one period.
use Rattle.std.specs.Prelude.{ℕ, cond, ◌&&◌, List, [], ◌∷◌, Some, None, Option}
use Rattle.std.specs.Option.{option_map}
use Rattle.energy.specs.declared.side.Side.{Side}
use Rattle.energy.specs.declared.side.Side.TheVariants.{Northern, Southern}
use Rattle.book.specs.FiledRows.{filed_fit, filed_under}
use Rattle.book.specs.declared.filed_row.FiledKey.{FiledKey}
use Rattle.book.specs.declared.filed_row.FiledKind.{FiledKind}
use Rattle.book.specs.declared.filed_row.FiledKind.TheVariants.{Trade, Match}
use Rattle.book.specs.declared.filed_row.FiledRow.{FiledRow}
use Rattle.allocation.specs.declared.cell.Amounts.{Amounts}
use Rattle.allocation.specs.declared.cell.Cell.{Cell}

-- The first entry under a key: rows that fail the check are passed over.
abbrev pub filed : List FiledRow → FiledKey → Option FiledRow
filed [] k = None
filed (x ∷ xs) k = cond (filed_fit x && filed_under x k) (Some x) (filed xs k)

-- The key of what one of two parties filed of their trade or match in a period.
abbrev pub key_of : ℕ → FiledKind → Side → ℕ → ℕ → FiledKey
key_of p what by n s = record { filer = by; kind = what; period = p; north = n; south = s }

-- The amounts of a row.
abbrev pub amounts : FiledRow → Amounts
amounts x = record { ns = x.ns; sn = x.sn }

-- What the rows hold of two parties in a period.
abbrev pub cell_of : List FiledRow → ℕ → ℕ → ℕ → Cell
cell_of xs p n s = record {
  north_trade = option_map amounts (filed xs (key_of p Trade Northern n s));
  south_trade = option_map amounts (filed xs (key_of p Trade Southern n s));
  north_match = option_map amounts (filed xs (key_of p Match Northern n s));
  south_match = option_map amounts (filed xs (key_of p Match Southern n s));
}

-- A cell with a filing in its place.
abbrev pub put_as : FiledKind → Side → Option Amounts → Cell → Cell
put_as Trade Northern a c = record { north_trade = a; south_trade = c.south_trade; north_match = c.north_match; south_match = c.south_match }
put_as Trade Southern a c = record { north_trade = c.north_trade; south_trade = a; north_match = c.north_match; south_match = c.south_match }
put_as Match Northern a c = record { north_trade = c.north_trade; south_trade = c.south_trade; north_match = a; south_match = c.south_match }
put_as Match Southern a c = record { north_trade = c.north_trade; south_trade = c.south_trade; north_match = c.north_match; south_match = a }

abbrev pub put : FiledRow → Cell → Cell
put x c = put_as x.kind x.filer (Some (amounts x)) c
