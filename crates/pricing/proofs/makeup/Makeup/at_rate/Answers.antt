use Rattle.std.proofs.Common.{arith}
use Rattle.std.proofs.lemmas.Nat.{mul-le}
use Rattle.pricing.proofs.makeup.Makeup.at_rate.Goals as goal

pub returns-clause-bound : goal.returns-clause-bound
returns-clause-bound c =
    let count = c.args.count in
    let rate = c.args.self.rate in
    omega (arith, mul-le count rate.amount.0 count 100000 (omega arith) (omega (arith, rate.within)))
