use Rattle.std.proofs.Common.{rules}
use Rattle.energy.proofs.Coding.{no_code}
use Rattle.energy.proofs.party_code.PartyCode.read.Goals as goal

pub returns-else-are_code_chars : goal.returns-else-are_code_chars
returns-else-are_code_chars c = no_code c.args.text.now (search rules) (search rules)
