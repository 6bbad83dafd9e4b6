-- Readings.
use Rattle.std.specs.Prelude.{ℕ, Bool, true, ◌&&◌, Some, None, Option, ◌==◌, nat_le}
use Rattle.energy.specs.declared.unit.Kwh.{Kwh}
use Rattle.book.specs.declared.reading_row.ReadingKey.{ReadingKey}
use Rattle.book.specs.declared.reading_row.ReadingRow.{ReadingRow}

-- What is not given is within any limit.
abbrev pub within_limit : Option Kwh → Bool
within_limit None = true
within_limit (Some given) = nat_le given.0 9999999

-- No reading has a party number above 15 or an amount above 9,999,999 kWh.
abbrev pub reading_fit : ReadingRow → Bool
reading_fit x = nat_le x.party 15 && (nat_le x.local.0 9999999 && (nat_le x.plg.0 9999999 && within_limit x.demand))

-- A key is party and period.
abbrev pub reading_key : ReadingRow → ReadingKey
reading_key x = record { party = x.party; period = x.period }

-- A row is under a key that agrees with it on both.
abbrev pub reading_under : ReadingRow → ReadingKey → Bool
reading_under x k = x.party == k.party && x.period == k.period

-- A book uses at most 800 rows of readings.
abbrev pub reading_most : ℕ
reading_most = 800
