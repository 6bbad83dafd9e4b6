-- Octobers and year ends, in the seasons and the columns.
use Rattle.std.proofs.Common.{◌≡◌, Bool, true, arith}
use Rattle.std.proofs.lemmas.Bool.Decides.{nat_tests}
use Rattle.calendar.specs.Calendar.{CalendarDay}
use Rattle.calendar.specs.Columns.{season_column, working}
use Rattle.calendar.specs.Seasons.{makeup_season_of, at_year_end}
use Rattle.calendar.specs.Theorems.{Octobers, YearEnd}
use Rattle.calendar.specs.declared.column.FactorColumn.TheVariants.{OtherWinterDay}
use Rattle.calendar.proofs.Following.{has}
use Rattle.calendar.proofs.Months.{month_days_le}

pub octobers : Octobers
octobers d e october =
    let h = has d e in
    let most = month_days_le d.year d.month in
    (grind (arith, nat_tests), grind (arith, nat_tests))

last_column : (d : CalendarDay) (works : Bool) → at_year_end d ≡ true → season_column (makeup_season_of d) d works ≡ OtherWinterDay
last_column d works e = grind (arith, nat_tests)

pub year_end : YearEnd
year_end d public_holiday e = last_column d (working d public_holiday) e
