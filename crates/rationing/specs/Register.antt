-- The register rule.
use Rattle.std.specs.Prelude.{ℕ, ◌+◌, ◌-◌, ◌*◌, ◌/◌, ◌%◌, cond, ◌&&◌, List, [], ◌∷◌, nat_lt}
use Rattle.energy.specs.declared.unit.Kwh.{Kwh}
use Rattle.energy.specs.Totals.{sum_kwh, sum_of}
use Rattle.energy.specs.Units.{kwh}
use Rattle.rationing.specs.Quota.{whole_or}

-- A claim's share of the amount rounded down, and the remainder of that division.
abbrev pub down : ℕ → ℕ → Kwh → ℕ
down amount all claim = amount * claim.0 / all

abbrev pub over : ℕ → ℕ → Kwh → ℕ
over amount all claim = amount * claim.0 % all

-- One kWh for a remainder, while any is left.
abbrev pub odd : ℕ → ℕ → ℕ
odd left remainder = cond (nat_lt 0 left && nat_lt 0 remainder) 1 0

-- Down the register, each claim's share rounded down and its odd kWh of what is left.
abbrev pub handed : ℕ → ℕ → ℕ → List Kwh → List Kwh
handed amount all left [] = []
handed amount all left (c ∷ cs) = kwh (down amount all c + odd left (over amount all c)) ∷ handed amount all (left - odd left (over amount all c)) cs

-- What is left of the amount when every share is rounded down.
abbrev pub spare : ℕ → List Kwh → ℕ
spare amount claims = amount - sum_of (down amount (sum_kwh claims)) claims

-- A smaller amount is handed out down the register.
abbrev pub handed_out : Kwh → List Kwh → List Kwh
handed_out amount claims = handed amount.0 (sum_kwh claims) (spare amount.0 claims) claims

-- The register rule.
abbrev pub register : Kwh → List Kwh → List Kwh
register = whole_or handed_out
