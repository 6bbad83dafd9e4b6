-- What a register of the program stands for.
use Rattle.std.specs.Prelude.{◌≡◌, ℕ, Some, None, Option}
use Rattle.energy.specs.PartyCodes.{code_text}
use Rattle.energy.specs.declared.party_code.PartyCode.{PartyCode}
use Rattle.energy.specs.declared.side.Side.{Side}
use Rattle.register.specs.Parties.{Parties, on, number_in, placed, found}
use Rattle.register.specs.Rolls.{parties_in}
use Rattle.register.specs.declared.register.Register.{Register}

-- A register is the parties of its sides.
abbrev pub parties_of : Register → Parties
parties_of r = parties_in r.northern r.southern

-- The party at a place is found again by its code, at exactly this side and number.
abbrev pub FoundAgain : Side → ℕ → Parties → Option PartyCode → Type 0
FoundAgain s k ps None = Unit {0}
FoundAgain s k ps (Some c) = (found (code_text c) ps ≡ Some (placed s k)) × (number_in (code_text c) (on s ps) ≡ Some k)
