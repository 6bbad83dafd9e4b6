-- The seasons and other stretches of the year, by the date on which a day starts.
use Rattle.std.specs.Prelude.{ℕ, ◌+◌, ◌*◌, Bool, cond, ◌&&◌, ◌||◌, nat_le}
use Rattle.calendar.specs.Calendar.{CalendarDay}
use Rattle.calendar.specs.declared.season.SpillSeason.{SpillSeason}
use Rattle.calendar.specs.declared.season.SpillSeason.TheVariants.{Summer as SpillSummer, Winter as SpillWinter}
use Rattle.calendar.specs.declared.season.MakeupSeason.{MakeupSeason}
use Rattle.calendar.specs.declared.season.MakeupSeason.TheVariants.{Summer as MakeupSummer, Winter as MakeupWinter}

-- The place of a day in its year is the number MMDD: a later day has a larger one.
abbrev pub place_of : CalendarDay → ℕ
place_of d = 100 * d.month + d.day

-- A day is from one place in the year to another, both included.
abbrev pub between : ℕ → ℕ → CalendarDay → Bool
between from to d = nat_le from (place_of d) && nat_le (place_of d) to

-- For spill, summer is from 1 April to 30 September, and the rest of the year is winter.
abbrev pub spill_season_of : CalendarDay → SpillSeason
spill_season_of d = cond (between 4_01 9_30 d) SpillSummer SpillWinter

-- For makeup, summer is from 1 April to 31 October, and the rest of the year is winter.
abbrev pub makeup_season_of : CalendarDay → MakeupSeason
makeup_season_of d = cond (between 4_01 10_31 d) MakeupSummer MakeupWinter

-- The winter peak is from 22 November to 21 February.
abbrev pub at_winter_peak : CalendarDay → Bool
at_winter_peak d = between 11_22 12_31 d || between 1_01 2_21 d

-- The year end is from 24 December to 1 January.
abbrev pub at_year_end : CalendarDay → Bool
at_year_end d = between 12_24 12_31 d || between 1_01 1_01 d
