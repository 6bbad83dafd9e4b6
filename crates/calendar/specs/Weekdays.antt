-- Weekdays, by counting days from 1 April 2003, a Tuesday.
use Rattle.std.specs.Prelude.{ℕ, zero, suc, ◌+◌, ◌-◌, ◌*◌, ◌/◌, ◌%◌}
use Rattle.calendar.specs.Calendar.{CalendarDay, month_days}
use Rattle.calendar.specs.declared.weekday.Weekday.{Weekday}
use Rattle.calendar.specs.declared.weekday.Weekday.TheVariants.{Monday, Tuesday, Wednesday, Thursday, Friday, Saturday, Sunday}

-- Each weekday is followed by the next, and Sunday by Monday.
abbrev pub day_after : Weekday → Weekday
day_after Monday = Tuesday
day_after Tuesday = Wednesday
day_after Wednesday = Thursday
day_after Thursday = Friday
day_after Friday = Saturday
day_after Saturday = Sunday
day_after Sunday = Monday

-- So many days after a weekday.
abbrev pub onward : Weekday → ℕ → Weekday
onward w zero = w
onward w (suc n) = day_after (onward w n)

-- How many months after April 2003 a day's month comes.
abbrev pub month_count : CalendarDay → ℕ
month_count d = (12 * d.year + d.month) - (12 * 2003 + 4)

-- The days of the month that comes k months after April 2003, and so k + 3 after January 2003.
abbrev pub counted_month_days : ℕ → ℕ
counted_month_days k = month_days (2003 + (k + 3) / 12) ((k + 3) % 12 + 1)

-- The days of the k months from April 2003 on.
abbrev pub days_before : ℕ → ℕ
days_before zero = 0
days_before (suc k) = days_before k + counted_month_days k

-- The days from 1 April 2003 to a day: those of the whole months between, and those before it in its month.
abbrev pub days_since : CalendarDay → ℕ
days_since d = days_before (month_count d) + (d.day - 1)

-- A day's weekday is so many days after Tuesday as the day is after 1 April 2003, which was a Tuesday.
abbrev pub weekday_of : CalendarDay → Weekday
weekday_of d = onward Tuesday (days_since d)
