-- Filed entries.
use Rattle.std.specs.Prelude.{ℕ, Bool, true, false, ◌&&◌, ◌==◌, nat_le}
use Rattle.energy.specs.declared.side.Side.{Side}
use Rattle.energy.specs.declared.side.Side.TheVariants.{Northern, Southern}
use Rattle.book.specs.declared.filed_row.FiledKey.{FiledKey}
use Rattle.book.specs.declared.filed_row.FiledKind.{FiledKind}
use Rattle.book.specs.declared.filed_row.FiledKind.TheVariants.{Trade, Match}
use Rattle.book.specs.declared.filed_row.FiledRow.{FiledRow}

-- No entry has a party number above 15 or an amount above 9,999,999 kWh.
abbrev pub filed_fit : FiledRow → Bool
filed_fit x = nat_le x.north 15 && (nat_le x.south 15 && (nat_le x.ns.0 9999999 && nat_le x.sn.0 9999999))

-- Sides and kinds are the same or not.
abbrev pub same_side : Side → Side → Bool
same_side Northern Northern = true
same_side Northern Southern = false
same_side Southern Northern = false
same_side Southern Southern = true

abbrev pub same_kind : FiledKind → FiledKind → Bool
same_kind Trade Trade = true
same_kind Trade Match = false
same_kind Match Trade = false
same_kind Match Match = true

-- A key is filer, kind, period and both parties: all but the amounts and the flag.
abbrev pub filed_key : FiledRow → FiledKey
filed_key x = record { filer = x.filer; kind = x.kind; period = x.period; north = x.north; south = x.south }

-- A row is under a key that agrees with it on all five.
abbrev pub filed_under : FiledRow → FiledKey → Bool
filed_under x k =
    (x.period == k.period && (x.north == k.north && x.south == k.south))
    && (same_kind x.kind k.kind && same_side x.filer k.filer)

-- A book uses at most 4,096 rows of filed entries.
abbrev pub filed_most : ℕ
filed_most = 4096
