-- The Gregorian calendar, and the dates on which a trading day can start.
use Rattle.std.specs.Prelude.{ℕ, ◌+◌, ◌*◌, ◌/◌, ◌%◌, Bool, cond, not, ◌&&◌, ◌||◌, Some, None, Option, List, ◌++◌, codes, decimal, ◌==◌, nat_le, nat_lt}

-- Three numbers that may name a day of the calendar.
pub record CalendarDay : Type 0 where
  pub year : ℕ
  pub month : ℕ
  pub day : ℕ

-- The day with a year, a month and a day of the month.
abbrev pub dated : ℕ → ℕ → ℕ → CalendarDay
dated y m d = record { year = y; month = m; day = d }

-- A year is a leap year when it is divisible by 4 and not by 100, or divisible by 400.
abbrev pub leap : ℕ → Bool
leap y = (y % 4 == 0 && not (y % 100 == 0)) || y % 400 == 0

-- February has 29 days in a leap year and 28 in any other; April, June, September and November
-- have 30 days; each other month has 31.
abbrev pub month_days : ℕ → ℕ → ℕ
month_days y m =
    cond (m == 2) (cond (leap y) 29 28)
    (cond ((m == 4 || m == 6) || (m == 9 || m == 11)) 30 31)

-- The calendar has a day when its month is 1 to 12 and its day is 1 to the month's days.
abbrev pub in_calendar : CalendarDay → Bool
in_calendar d =
    (nat_le 1 d.month && nat_le d.month 12)
    && (nat_le 1 d.day && nat_le d.day (month_days d.year d.month))

-- The number YYYYMMDD of a day, and the day that such a number names.
abbrev pub numbered : CalendarDay → ℕ
numbered d = 10000 * d.year + 100 * d.month + d.day

abbrev pub day_named : ℕ → CalendarDay
day_named n = dated (n / 10000) (n / 100 % 100) (n % 100)

-- A trading day can start from 1 April 2003 to 31 December 2099, on each day that the calendar has.
abbrev pub is_date : ℕ → Bool
is_date n = (nat_le 2003_04_01 n && nat_le n 2099_12_31) && in_calendar (day_named n)

-- The date that a number names, where it is one.
abbrev pub date_named : ℕ → Option CalendarDay
date_named n = cond (is_date n) (Some (day_named n)) None

-- What is written of a number that names no date.
abbrev pub no_date_text : ℕ → List ℕ
no_date_text n = codes "no trading day starts on " ++ decimal n

-- The day after: the next day of the month, after its last day the first of the next month, and
-- after the last day of December 1 January.
abbrev pub following : CalendarDay → CalendarDay
following d =
    cond (nat_lt d.day (month_days d.year d.month)) (dated d.year d.month (d.day + 1))
    (cond (nat_lt d.month 12) (dated d.year (d.month + 1) 1) (dated (d.year + 1) 1 1))
