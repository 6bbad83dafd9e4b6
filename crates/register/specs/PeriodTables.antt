-- The table of periods, and what is posted to it.
use Rattle.std.specs.Prelude.{◌-◌, cond, List, replicate, Ok, Err, Result, slice_index_or, slice_set}
use Rattle.calendar.specs.declared.period.Period.{Period}
use Rattle.energy.specs.declared.direction.Direction.{Direction}
use Rattle.energy.specs.declared.unit.Mw.{Mw}
use Rattle.energy.specs.declared.unit.Rate.{Rate}
use Rattle.register.specs.Limits.{mw_within, rate_within}
use Rattle.register.specs.PeriodRows.{plain_row, with_ntc, with_rate}
use Rattle.register.specs.Refusals.{over_limit}
use Rattle.register.specs.declared.period_row.PeriodRow.{PeriodRow}
use Rattle.register.specs.declared.refusal.OverLimit.{OverLimit}

-- There is a row for each of the 50 periods that the longest day has.
abbrev pub default_rows : List PeriodRow
default_rows = replicate 50 plain_row

-- Periods are numbered from 1, and the first has the first row.
abbrev pub row_at : Period → List PeriodRow → PeriodRow
row_at p xs = slice_index_or xs (p.number - 1) plain_row

-- The row of one period is changed, and no other.
abbrev pub row_changed : Period → (PeriodRow → PeriodRow) → List PeriodRow → List PeriodRow
row_changed p f xs = slice_set xs (p.number - 1) (f (row_at p xs))

-- A net transfer capacity is posted for a period and a direction, where it is within the limit.
abbrev pub ntc_posted : Period → Direction → Mw → List PeriodRow → List PeriodRow × Result (Unit {0}) OverLimit
ntc_posted p d m xs = cond (mw_within m) (row_changed p (with_ntc d m) xs, Ok tt) (xs, Err over_limit)

-- A rate is posted for a period, where it is within the limit.
abbrev pub rate_posted : Period → Rate → List PeriodRow → List PeriodRow × Result (Unit {0}) OverLimit
rate_posted p u xs = cond (rate_within u) (row_changed p (with_rate u) xs, Ok tt) (xs, Err over_limit)
