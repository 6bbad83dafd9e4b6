use Rattle.std.proofs.Common.{◌≡◌, true, rules}
use Rattle.register.proofs.Passing.{pass_change}
use Rattle.register.proofs.Posting.{rate_keeps}
use Rattle.register.specs.Limits.{rate_within}
use Rattle.register.specs.PeriodRows.{with_rate, row_within}
use Rattle.register.proofs.period_table.PeriodTable.post_rate.Goals as goal

pub invariant_of-self : goal.invariant_of-self
invariant_of-self c =
    let self = c.args.self.now in
    let u = c.in_ok-rate.rate in
    let few : rate_within u ≡ true = search rules in
    record { within = pass_change row_within (with_rate u) (rate_keeps u few) self.rows c.place.result _ _ c.post_rate.ensures self.within }
