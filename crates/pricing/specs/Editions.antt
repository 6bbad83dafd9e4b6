-- The edition of the prices that a day has.
use Rattle.std.specs.Prelude.{ℕ, List, codes}
use Rattle.calendar.specs.declared.day.TradingDay.{TradingDay}
use Rattle.calendar.specs.declared.period.Period.{Period}
use Rattle.energy.specs.declared.unit.Kwh.{Kwh}
use Rattle.energy.specs.declared.unit.Micropence.{Micropence}
use Rattle.energy.specs.declared.unit.Rate.{Rate}
use Rattle.pricing.specs.Makeup.{third_makeup, fourth_makeup}
use Rattle.pricing.specs.Spills.{third_spill, fourth_spill}
use Rattle.pricing.specs.declared.edition.Edition.{Edition}
use Rattle.pricing.specs.declared.edition.Edition.TheVariants.{Third, Fourth}

-- A spill is paid as the day's edition says.
abbrev pub edition_spill : Edition → TradingDay → Kwh → Kwh → Kwh → Micropence
edition_spill (Third e) = third_spill
edition_spill (Fourth e) = fourth_spill

-- A shortage is charged as the day's edition says.
abbrev pub edition_makeup : Edition → TradingDay → Period → Kwh → Rate → Kwh → Micropence
edition_makeup (Third e) = third_makeup
edition_makeup (Fourth e) = fourth_makeup

-- An edition is written by its number.
abbrev pub edition_text : Edition → List ℕ
edition_text (Third e) = codes "3.0"
edition_text (Fourth e) = codes "4.0"
