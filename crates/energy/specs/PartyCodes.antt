-- What a code of the program stands for.
use Rattle.std.specs.Prelude.{ℕ, List}
use Rattle.energy.specs.Codes.{first_four}
use Rattle.energy.specs.declared.party_code.PartyCode.{PartyCode}

-- A code is written as its four characters.
abbrev pub code_text : PartyCode → List ℕ
code_text code = first_four code.chars
