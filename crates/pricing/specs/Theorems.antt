-- What stands of the prices as a whole.
use Rattle.std.specs.Prelude.{◌≡◌, ℕ, ◌≤◌, false, ◌⊎◌, ℤ, pos, ◌-ℤ◌}
use Rattle.calendar.specs.Calendar.{dated}
use Rattle.calendar.specs.Columns.{column_of}
use Rattle.calendar.specs.Periods.{row_of}
use Rattle.calendar.specs.Seasons.{spill_season_of}
use Rattle.calendar.specs.declared.column.FactorColumn.{FactorColumn}
use Rattle.calendar.specs.declared.day.TradingDay.{TradingDay}
use Rattle.calendar.specs.declared.length.DayLength.TheVariants.{Normal}
use Rattle.calendar.specs.declared.season.SpillSeason.TheVariants.{Winter}
use Rattle.energy.specs.Units.{kwh}
use Rattle.energy.specs.declared.unit.Kwh.{Kwh}
use Rattle.pricing.specs.DemandErrors.{spill_of, shortage_of}
use Rattle.pricing.specs.Factors.{factor_of}
use Rattle.pricing.specs.Limits.{most_energy, most_shortage, most_rate}
use Rattle.pricing.specs.Makeup.{factored_charge}
use Rattle.pricing.specs.Money.{micropence, millipence}
use Rattle.pricing.specs.Spills.{fourth_spill}
use Rattle.pricing.specs.declared.limited.TheConstants.{MOST_ENERGY, MOST_SHORTAGE, MOST_RATE}

-- The constants that energies, shortages and rates are limited by are the limits that these are priced up to.
abbrev pub LimitsKept : Type 0
LimitsKept = (MOST_ENERGY ≡ most_energy) × (MOST_SHORTAGE ≡ most_shortage) × (MOST_RATE ≡ most_rate)

-- Every factor of the table, at each column and each of the 48 rows, is from 1.0 to 1.5.
abbrev pub FactorRange : Type 0
FactorRange =
    (kind : FactorColumn) (n : ℕ) → 1 ≤ n → n ≤ 48 → (10 ≤ factor_of kind n) × (factor_of kind n ≤ 15)

-- Of the spill and the shortage of an error one is 0, and the spill less the shortage is the error.
abbrev pub EitherWay : Type 0
EitherWay =
    (z : ℤ) → ((spill_of z ≡ kwh 0) ⊎ (shortage_of z ≡ kwh 0)) × (pos (spill_of z).0 -ℤ pos (shortage_of z).0 ≡ z)

-- In edition 4.0, with a base of 1,000 kWh, on any day and at any local nomination: a spill of 100 kWh is paid 100,000,000
-- micropence, and one of 101 kWh 80,800,000.
abbrev pub WorkedSpills : Type 0
WorkedSpills =
    (t : TradingDay) (nominated : Kwh)
    → (fourth_spill t (kwh 1000) nominated (kwh 100) ≡ micropence 100000000)
    × (fourth_spill t (kwh 1000) nominated (kwh 101) ≡ micropence 80800000)

-- In edition 4.0, with a base of 1,000 kWh, a rate of 4,000 millipence and a factor of 1.2: a shortage of 150 kWh is charged
-- 600,000,000 micropence, one of 151 kWh 604,800,000 and one of 200 kWh 840,000,000.
abbrev pub WorkedCharges : Type 0
WorkedCharges =
    (factored_charge 12 (kwh 1000) (millipence 4000) (kwh 150) ≡ micropence 600000000)
    × (factored_charge 12 (kwh 1000) (millipence 4000) (kwh 151) ≡ micropence 604800000)
    × (factored_charge 12 (kwh 1000) (millipence 4000) (kwh 200) ≡ micropence 840000000)

-- On 15 October 2004, a working day of normal length, period 16 has row 28 and factor 1.4, and a spill is of winter.
abbrev pub WorkedOctober : Type 0
WorkedOctober =
    (row_of Normal 16 ≡ 28)
    × (factor_of (column_of (dated 2004 10 15) false) (row_of Normal 16) ≡ 14)
    × (spill_season_of (dated 2004 10 15) ≡ Winter)
