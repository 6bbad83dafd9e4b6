-- The columns of the makeup factor table.
use Rattle.std.specs.Prelude.{Bool, true, false, cond, not, ◌&&◌}
use Rattle.calendar.specs.Calendar.{CalendarDay}
use Rattle.calendar.specs.Seasons.{between, makeup_season_of, at_winter_peak, at_year_end}
use Rattle.calendar.specs.Weekdays.{weekday_of}
use Rattle.calendar.specs.declared.column.FactorColumn.{FactorColumn}
use Rattle.calendar.specs.declared.column.FactorColumn.TheVariants.{MaySeptemberWorkday, AprilOctoberWorkday, OtherSummerDay, WinterPeakWorkday, OtherWinterWorkday, OtherWinterDay}
use Rattle.calendar.specs.declared.season.MakeupSeason.{MakeupSeason}
use Rattle.calendar.specs.declared.season.MakeupSeason.TheVariants.{Summer, Winter}
use Rattle.calendar.specs.declared.weekday.Weekday.{Weekday}
use Rattle.calendar.specs.declared.weekday.Weekday.TheVariants.{Monday, Tuesday, Wednesday, Thursday, Friday, Saturday, Sunday}

-- Saturday and Sunday are the weekend.
abbrev pub weekend : Weekday → Bool
weekend Monday = false
weekend Tuesday = false
weekend Wednesday = false
weekend Thursday = false
weekend Friday = false
weekend Saturday = true
weekend Sunday = true

-- A working day is one of Monday to Friday that the flag does not mark as a public holiday.
abbrev pub working : CalendarDay → Bool → Bool
working d public_holiday = not public_holiday && not (weekend (weekday_of d))

-- A working day of summer is of May to September, or else of April or October; each other day of
-- summer has one column.
abbrev pub summer_column : CalendarDay → Bool → FactorColumn
summer_column d works =
    cond works (cond (between 5_01 9_30 d) MaySeptemberWorkday AprilOctoberWorkday) OtherSummerDay

-- A working day of winter that is not of the year end is of the winter peak, or else of the rest of
-- winter; each other day of winter, and every day of the year end, has one column.
abbrev pub winter_column : CalendarDay → Bool → FactorColumn
winter_column d works =
    cond (works && not (at_year_end d)) (cond (at_winter_peak d) WinterPeakWorkday OtherWinterWorkday) OtherWinterDay

-- A day of summer has a column of summer, and a day of winter one of winter.
abbrev pub season_column : MakeupSeason → CalendarDay → Bool → FactorColumn
season_column Summer d works = summer_column d works
season_column Winter d works = winter_column d works

-- The column of a day, by its makeup season and by whether it is a working day.
abbrev pub column_of : CalendarDay → Bool → FactorColumn
column_of d public_holiday = season_column (makeup_season_of d) d (working d public_holiday)
