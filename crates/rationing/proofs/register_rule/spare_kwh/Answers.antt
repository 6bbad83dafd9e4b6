use Rattle.std.proofs.Common.{◌≡◌, ◌^◌, ◌<◌, arith, rules}
use Rattle.energy.specs.Totals.{sum_of}
use Rattle.rationing.specs.Register.{down}
use Rattle.rationing.specs.Handing.{downs_le}
use Rattle.rationing.proofs.register_rule.spare_kwh.Goals as goal

-- the shares rounded down stay within the amount
pub sum-down-requires-clause-fits : goal.sum-down-requires-clause-fits
sum-down-requires-clause-fits c =
    let uncovered = c.args.uncovered in
    let a = uncovered.shortfall.amount.0 in
    let s = uncovered.shortfall.sum.0 in
    let fits : sum_of (down a s) uncovered.claims.now < 2 ^ 64 = omega (arith, downs_le a s uncovered.claims.now uncovered.summed uncovered.shortfall.short) in
    search rules

pub overflow_sub-result : goal.overflow_sub-result
overflow_sub-result c =
    let uncovered = c.args.uncovered in
    let a = uncovered.shortfall.amount.0 in
    let s = uncovered.shortfall.sum.0 in
    let downs : c.sum-down.result ≡ sum_of (down a s) uncovered.claims.now = search rules in
    omega (arith, downs_le a s uncovered.claims.now uncovered.summed uncovered.shortfall.short)
