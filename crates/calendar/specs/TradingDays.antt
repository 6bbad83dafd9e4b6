-- What a trading day is made of.
use Rattle.std.specs.Prelude.{Bool}
use Rattle.calendar.specs.Calendar.{CalendarDay}
use Rattle.calendar.specs.Dates.{calendar_day}
use Rattle.calendar.specs.declared.date.Date.{Date}
use Rattle.calendar.specs.declared.day.TradingDay.{TradingDay}
use Rattle.calendar.specs.declared.length.DayLength.{DayLength}

-- The trading day with a date, a length and a flag that tells whether it is a public holiday.
abbrev pub day_with : Date → DayLength → Bool → TradingDay
day_with starts lasts public_holiday = record { date = starts; length = lasts; holiday = public_holiday }

-- A trading day goes by the day of the calendar on which it starts, for its periods after midnight too.
abbrev pub start_day : TradingDay → CalendarDay
start_day t = calendar_day t.date
