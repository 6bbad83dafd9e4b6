-- Awards that were worked out by hand.
use Rattle.std.specs.Prelude.{◌≡◌, ℕ, List, [], ◌∷◌, map}
use Rattle.energy.specs.declared.unit.Kwh.{Kwh}
use Rattle.energy.specs.Units.{kwh}
use Rattle.rationing.specs.Register.{register}
use Rattle.rationing.specs.Running.{running}

-- A list of energies by their numbers.
abbrev pub energies : List ℕ → List Kwh
energies numbers = map kwh numbers

-- A rule answers an amount and claims with these awards.
abbrev pub Answers : (Kwh → List Kwh → List Kwh) → ℕ → List ℕ → List ℕ → Type 0
Answers rule amount claims awards = rule (kwh amount) (energies claims) ≡ energies awards

-- One line for each worked case.
pub record WorkedAwards : Type 0 where
  pub two_by_register : Answers register 2 (1 ∷ 1 ∷ 3 ∷ 3 ∷ []) (1 ∷ 1 ∷ 0 ∷ 0 ∷ [])
  pub two_by_running : Answers running 2 (1 ∷ 1 ∷ 3 ∷ 3 ∷ []) (0 ∷ 0 ∷ 1 ∷ 1 ∷ [])
  pub three_by_register : Answers register 3 (1 ∷ 1 ∷ 3 ∷ 3 ∷ []) (1 ∷ 0 ∷ 1 ∷ 1 ∷ [])
  pub three_by_running : Answers running 3 (1 ∷ 1 ∷ 3 ∷ 3 ∷ []) (0 ∷ 0 ∷ 1 ∷ 2 ∷ [])
  pub thirds_by_register : Answers register 500 (500 ∷ 1000 ∷ []) (167 ∷ 333 ∷ [])
  pub one_claim_by_register : Answers register 500 (501 ∷ []) (500 ∷ [])
  pub one_claim_by_running : Answers running 500 (501 ∷ []) (500 ∷ [])
