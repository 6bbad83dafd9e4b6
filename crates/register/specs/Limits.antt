-- The limits of what a register and a period table hold.
use Rattle.std.specs.Prelude.{ℕ, Bool, nat_le}
use Rattle.energy.specs.declared.unit.Mw.{Mw}
use Rattle.energy.specs.declared.unit.Rate.{Rate}

-- A side has at most 16 parties.
abbrev pub most_parties : ℕ
most_parties = 16

-- An entitlement and a net transfer capacity are at most 9,999 MW.
abbrev pub mw_within : Mw → Bool
mw_within m = nat_le m.0 9999

-- A rate is at most 100,000 millipence per kWh.
abbrev pub rate_within : Rate → Bool
rate_within u = nat_le u.0 100000
