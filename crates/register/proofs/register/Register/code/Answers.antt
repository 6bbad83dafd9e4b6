use Rattle.std.proofs.Common.{sym}
use Rattle.register.proofs.Finding.{found_nth}
use Rattle.register.specs.Registers.{parties_of}
use Rattle.register.specs.Rolls.{party_view}
use Rattle.register.proofs.register.Register.code.Goals as goal

pub returns-clause-back : goal.returns-clause-back
returns-clause-back c =
    let self = c.args.self.now in
    found_nth (parties_of self) self.apart c.args.side c.args.number (party_view c.in_ok-party.field-0) (sym c.in_ok-party.ensures)
