-- Demand Error, and the spill or the shortage that it is.
use Rattle.std.specs.Prelude.{suc, ℤ, pos, negsuc, ◌-ℤ◌}
use Rattle.energy.specs.Units.{kwh}
use Rattle.energy.specs.declared.unit.Kwh.{Kwh}

-- Demand Error is the base less the actual demand and less the export, below zero where these are more.
abbrev pub error_of : Kwh → Kwh → Kwh → ℤ
error_of base actual export = (pos base.0 -ℤ pos actual.0) -ℤ pos export.0

-- The spill is the error where it is above zero, and else 0.
abbrev pub spill_of : ℤ → Kwh
spill_of (pos n) = kwh n
spill_of (negsuc n) = kwh 0

-- The shortage is minus the error where it is below zero, and else 0.
abbrev pub shortage_of : ℤ → Kwh
shortage_of (pos n) = kwh 0
shortage_of (negsuc n) = kwh (suc n)
