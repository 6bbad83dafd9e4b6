-- The sum of kWh figures.
use Rattle.std.specs.Prelude.{ℕ, ◌^◌, cond, List, Some, None, sum_by, Option, nat_lt}
use Rattle.energy.specs.Units.{kwh}
use Rattle.energy.specs.declared.unit.Kwh.{Kwh}

-- The sum of what each item tells.
abbrev pub sum_of : {X : Type 0} → (X → ℕ) → List X → ℕ
sum_of figure items = sum_by figure items

-- The sum of a list of energies.
abbrev pub sum_kwh : List Kwh → ℕ
sum_kwh energies = sum_of (λ e. e.0) energies

-- A sum as an energy, where 64 bits hold it.
abbrev pub within64 : ℕ → Option Kwh
within64 n = cond (nat_lt n (2 ^ 64)) (Some (kwh n)) None
