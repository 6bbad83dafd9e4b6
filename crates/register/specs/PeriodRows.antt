-- What is in force in a period.
use Rattle.std.specs.Prelude.{Bool, true, ◌&&◌, List, Some, None, Option}
use Rattle.std.specs.List.{list_all}
use Rattle.energy.specs.Units.{mw}
use Rattle.energy.specs.declared.direction.Direction.{Direction}
use Rattle.energy.specs.declared.direction.Direction.TheVariants.{NorthSouth, SouthNorth}
use Rattle.energy.specs.declared.unit.Mw.{Mw}
use Rattle.energy.specs.declared.unit.Rate.{Rate}
use Rattle.register.specs.Limits.{mw_within, rate_within}
use Rattle.register.specs.declared.period_row.PeriodRow.{PeriodRow}

-- Until something is posted, both net transfer capacities are 0, the link is in service and there is no rate.
abbrev pub plain_row : PeriodRow
plain_row = record { ns_ntc = mw 0; sn_ntc = mw 0; service = true; rate = None }

-- Each direction has a net transfer capacity of its own.
abbrev pub ntc_in : Direction → PeriodRow → Mw
ntc_in NorthSouth x = x.ns_ntc
ntc_in SouthNorth x = x.sn_ntc

-- A posted net transfer capacity changes that of its direction alone.
abbrev pub with_ntc : Direction → Mw → PeriodRow → PeriodRow
with_ntc NorthSouth m x = record { ns_ntc = m; sn_ntc = x.sn_ntc; service = x.service; rate = x.rate }
with_ntc SouthNorth m x = record { ns_ntc = x.ns_ntc; sn_ntc = m; service = x.service; rate = x.rate }

-- Service is changed alone.
abbrev pub with_service : Bool → PeriodRow → PeriodRow
with_service b x = record { ns_ntc = x.ns_ntc; sn_ntc = x.sn_ntc; service = b; rate = x.rate }

-- A posted rate changes the rate alone.
abbrev pub with_rate : Rate → PeriodRow → PeriodRow
with_rate u x = record { ns_ntc = x.ns_ntc; sn_ntc = x.sn_ntc; service = x.service; rate = Some u }

-- A rate that was never posted is within the limit.
abbrev pub posted_within : Option Rate → Bool
posted_within None = true
posted_within (Some u) = rate_within u

-- A period's net transfer capacities and rate are within their limits.
abbrev pub row_within : PeriodRow → Bool
row_within x = mw_within x.ns_ntc && (mw_within x.sn_ntc && posted_within x.rate)

-- So they are in each period.
abbrev pub rows_within : List PeriodRow → Bool
rows_within xs = list_all row_within xs
