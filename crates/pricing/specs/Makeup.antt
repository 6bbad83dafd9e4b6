-- What a shortage is charged.
use Rattle.std.specs.Prelude.{ℕ, ◌+◌, ◌-◌, ◌*◌, cond, nat_le}
use Rattle.calendar.specs.declared.day.TradingDay.{TradingDay}
use Rattle.calendar.specs.declared.period.Period.{Period}
use Rattle.energy.specs.declared.unit.Kwh.{Kwh}
use Rattle.energy.specs.declared.unit.Micropence.{Micropence}
use Rattle.energy.specs.declared.unit.Rate.{Rate}
use Rattle.pricing.specs.Factors.{factor_in}
use Rattle.pricing.specs.Money.{micropence}

-- At the plain rate each kWh costs 1,000 micropence for each millipence of the rate.
abbrev pub plain_charge : Rate → Kwh → Micropence
plain_charge u s = micropence (1000 * s.0 * u.0)

-- 15 parts in 100 of the base cost the plain rate: 150 micropence for each millipence of the rate and each kWh of the base.
-- What the shortage has beyond them costs the plain rate times the factor: for each millipence and each hundredth of a kWh
-- as many micropence as the factor has tenths.
abbrev pub raised_charge : ℕ → Kwh → Rate → Kwh → Micropence
raised_charge f b u s = micropence (150 * b.0 * u.0 + (100 * s.0 - 15 * b.0) * f * u.0)

-- A shortage of at most 15 parts in 100 of the base is charged at the plain rate, and a larger one by the factor too.
abbrev pub factored_charge : ℕ → Kwh → Rate → Kwh → Micropence
factored_charge f b u s = cond (nat_le (100 * s.0) (15 * b.0)) (plain_charge u s) (raised_charge f b u s)

-- Edition 3.0 charges every shortage at the plain rate.
abbrev pub third_makeup : TradingDay → Period → Kwh → Rate → Kwh → Micropence
third_makeup t p b u s = plain_charge u s

-- Edition 4.0 charges by the factor of the day and the period.
abbrev pub fourth_makeup : TradingDay → Period → Kwh → Rate → Kwh → Micropence
fourth_makeup t p b u s = factored_charge (factor_in t p) b u s
