-- The running rule.
use Rattle.std.specs.Prelude.{ℕ, ◌+◌, ◌-◌, ◌*◌, ◌/◌, List, map, length, take}
use Rattle.std.specs.List.{range_with_len}
use Rattle.energy.specs.declared.unit.Kwh.{Kwh}
use Rattle.energy.specs.Totals.{sum_kwh}
use Rattle.energy.specs.Units.{kwh}
use Rattle.rationing.specs.Quota.{whole_or}

-- The part of the amount that falls to the first i claims together, rounded down.
abbrev pub up_to : ℕ → List Kwh → ℕ → ℕ
up_to amount claims i = amount * sum_kwh (take i claims) / sum_kwh claims

-- A claim's award is the part up to and with it, less the part up to it.
abbrev pub step_at : ℕ → List Kwh → ℕ → Kwh
step_at amount claims i = kwh (up_to amount claims (i + 1) - up_to amount claims i)

-- A smaller amount is divided along the running sum of the claims.
abbrev pub divided_along : Kwh → List Kwh → List Kwh
divided_along amount claims = map (step_at amount.0 claims) (range_with_len 0 (length claims))

-- The running rule.
abbrev pub running : Kwh → List Kwh → List Kwh
running = whole_or divided_along
