-- What stands of the calendar as a whole.
use Rattle.std.specs.Prelude.{◌≡◌, ℕ, ◌≤◌, Bool, true, false, Some}
use Rattle.calendar.specs.Calendar.{CalendarDay, dated, numbered, day_named, date_named, in_calendar, following}
use Rattle.calendar.specs.Columns.{column_of}
use Rattle.calendar.specs.Periods.{periods_of, row_of}
use Rattle.calendar.specs.Seasons.{at_year_end, spill_season_of, makeup_season_of}
use Rattle.calendar.specs.Weekdays.{day_after, weekday_of}
use Rattle.calendar.specs.declared.column.FactorColumn.TheVariants.{AprilOctoberWorkday, OtherWinterDay}
use Rattle.calendar.specs.declared.length.DayLength.{DayLength}
use Rattle.calendar.specs.declared.length.DayLength.TheVariants.{Normal}
use Rattle.calendar.specs.declared.season.SpillSeason.TheVariants.{Winter as SpillWinter}
use Rattle.calendar.specs.declared.season.MakeupSeason.TheVariants.{Summer as MakeupSummer}
use Rattle.calendar.specs.declared.weekday.Weekday.TheVariants.{Tuesday, Friday}

-- The day that a number names has that number.
abbrev pub Faithful : Type 0
Faithful = (n : ℕ) → numbered (day_named n) ≡ n

-- From 1 April 2003 on, the day after any day has the weekday after its weekday.
abbrev pub Consecutive : Type 0
Consecutive =
    (d : CalendarDay) → 2003_04_01 ≤ numbered d → in_calendar d ≡ true
    → weekday_of (following d) ≡ day_after (weekday_of d)

-- The day after a day that the calendar has is a day that the calendar has.
abbrev pub Unbroken : Type 0
Unbroken = (d : CalendarDay) → in_calendar d ≡ true → in_calendar (following d) ≡ true

-- A day of any length begins with the half hour that ends at 06:30 and ends with the one that ends at 06:00.
abbrev pub Round : Type 0
Round = (l : DayLength) → (row_of l 1 ≡ 13) × (row_of l (periods_of l) ≡ 12)

-- All of October is winter for spill and summer for makeup.
abbrev pub Octobers : Type 0
Octobers =
    (d : CalendarDay) → in_calendar d ≡ true → d.month ≡ 10
    → (spill_season_of d ≡ SpillWinter) × (makeup_season_of d ≡ MakeupSummer)

-- Every day from 24 December to 1 January, a working day or not, has the column of winter's other days.
abbrev pub YearEnd : Type 0
YearEnd = (d : CalendarDay) (public_holiday : Bool) → at_year_end d ≡ true → column_of d public_holiday ≡ OtherWinterDay

-- 1 April 2003 is a Tuesday. The number 20041015 names 15 October 2004, which is a Friday, of winter for spill and of summer for
-- makeup, and as a working day it has the column of April and October; period 16 of a normal day has row 28.
abbrev pub Worked : Type 0
Worked =
    (weekday_of (dated 2003 4 1) ≡ Tuesday)
    × (date_named 2004_10_15 ≡ Some (dated 2004 10 15))
    × (weekday_of (dated 2004 10 15) ≡ Friday)
    × (spill_season_of (dated 2004 10 15) ≡ SpillWinter)
    × (makeup_season_of (dated 2004 10 15) ≡ MakeupSummer)
    × (column_of (dated 2004 10 15) false ≡ AprilOctoberWorkday)
    × (row_of Normal 16 ≡ 28)
