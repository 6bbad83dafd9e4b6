-- Energy and capacity, and the way from one to the other.
use Rattle.std.specs.Prelude.{ℕ, ◌*◌, List, ◌++◌, codes, decimal}
use Rattle.energy.specs.declared.unit.Kwh.{Kwh}
use Rattle.energy.specs.declared.unit.Mw.{Mw}

-- So many kWh.
abbrev pub kwh : ℕ → Kwh
kwh n = record { 0 = n }

-- So many MW.
abbrev pub mw : ℕ → Mw
mw n = record { 0 = n }

-- One MW for half an hour is 500 kWh.
abbrev pub half_hour : Mw → Kwh
half_hour m = kwh (500 * m.0)

-- An energy is written as its number and the unit.
abbrev pub kwh_text : Kwh → List ℕ
kwh_text energy = decimal energy.0 ++ codes " kWh"
