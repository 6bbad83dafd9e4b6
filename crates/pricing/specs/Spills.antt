-- What a spill is paid.
use Rattle.std.specs.Prelude.{ℕ, ◌*◌, Bool, true, false, ◌&&◌, nat_le}
use Rattle.calendar.specs.Seasons.{spill_season_of}
use Rattle.calendar.specs.TradingDays.{start_day}
use Rattle.calendar.specs.declared.day.TradingDay.{TradingDay}
use Rattle.calendar.specs.declared.season.SpillSeason.{SpillSeason}
use Rattle.calendar.specs.declared.season.SpillSeason.TheVariants.{Summer, Winter}
use Rattle.energy.specs.declared.unit.Kwh.{Kwh}
use Rattle.energy.specs.declared.unit.Micropence.{Micropence}
use Rattle.pricing.specs.Money.{micropence}

-- A spill is within tolerance when it is at most 10,000 kWh and ten times it is at most the energy that it is measured
-- against.
abbrev pub tolerated : Kwh → Kwh → Bool
tolerated spilled e = nat_le spilled.0 10000 && nat_le (10 * spilled.0) e.0

-- The whole spill is paid at one price, in micropence per kWh.
abbrev pub paid_at : ℕ → Kwh → Micropence
paid_at price spilled = micropence (price * spilled.0)

-- The prices of edition 3.0, a penny being 1,000,000 micropence: in summer 1.5 pence per kWh within tolerance and 0.8
-- outside, in winter 2.0 and 1.2.
abbrev pub third_price : SpillSeason → Bool → ℕ
third_price Summer true = 1500000
third_price Summer false = 800000
third_price Winter true = 2000000
third_price Winter false = 1200000

-- The prices of edition 4.0: 1.0 penny per kWh within tolerance and 0.8 outside, all the year.
abbrev pub fourth_price : Bool → ℕ
fourth_price true = 1000000
fourth_price false = 800000

-- Edition 3.0 prices a spill by the day's season for spill, and measures it against the local nomination.
abbrev pub third_spill : TradingDay → Kwh → Kwh → Kwh → Micropence
third_spill t base nominated spilled = paid_at (third_price (spill_season_of (start_day t)) (tolerated spilled nominated)) spilled

-- Edition 4.0 measures a spill against the base.
abbrev pub fourth_spill : TradingDay → Kwh → Kwh → Kwh → Micropence
fourth_spill t base nominated spilled = paid_at (fourth_price (tolerated spilled base)) spilled
