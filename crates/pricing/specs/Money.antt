-- Money, and rates of money for energy.
use Rattle.std.specs.Prelude.{ℕ}
use Rattle.energy.specs.declared.unit.Micropence.{Micropence}
use Rattle.energy.specs.declared.unit.Rate.{Rate}

-- So many micropence.
abbrev pub micropence : ℕ → Micropence
micropence n = record { 0 = n }

-- A rate of so many millipence per kWh.
abbrev pub millipence : ℕ → Rate
millipence n = record { 0 = n }
