use Rattle.std.proofs.Common.{◌-◌, arith}
use Rattle.pricing.proofs.Tables.{tabulated_at, factor_range}
use Rattle.pricing.proofs.factor.stored.Goals as goal

pub returns : goal.returns
returns c =
    let row = c.args.row in
    let range = factor_range c.args.column row.number row.first row.last in
    let value =
    tabulated_at (c.number.result - 1) row.number c.place.result c.args.column (omega arith) (omega arith) c.place.ensures in
    record { value = value; least = omega (arith, value, range.0); most = omega (arith, value, range.1) }
