use Rattle.std.proofs.Common.{arith}
use Rattle.std.proofs.lemmas.Nat.{mul-le}
use Rattle.pricing.proofs.makeup.at_factor.Goals as goal

pub returns-clause-bound : goal.returns-clause-bound
returns-clause-bound c =
    let count = c.args.count in
    omega (arith, mul-le count c.args.factor.tenths count 15 (omega arith) c.args.factor.most)
