-- What a date of the code stands for.
use Rattle.std.specs.Prelude.{ℕ}
use Rattle.calendar.specs.Calendar.{CalendarDay, dated}
use Rattle.calendar.specs.declared.date.Date.{Date}
use Rattle.calendar.specs.declared.date.no_date.NoDate.{NoDate}

-- The day of the calendar that a date is.
abbrev pub calendar_day : Date → CalendarDay
calendar_day d = dated d.year d.month d.day

-- A number that names no date.
abbrev pub no_date : ℕ → NoDate
no_date n = record { 0 = n }
