-- A filer as its code.
use Rattle.std.specs.Prelude.{ℕ, List, Result}
use Rattle.std.specs.Result.{result_map_both}
use Rattle.energy.specs.PartyCodes.{code_text}
use Rattle.energy.specs.declared.party_code.PartyCode.{PartyCode}
use Rattle.intake.specs.declared.fault.FileFault.{FileFault}

-- A party or a fault, the party as its code.
abbrev pub code_said : Result PartyCode FileFault → Result (List ℕ) FileFault
code_said r = result_map_both code_text (λ e. e) r
