use Rattle.std.proofs.Common.{◌≡◌, true, rules}
use Rattle.register.proofs.Passing.{pass_change}
use Rattle.register.proofs.Posting.{ntc_keeps}
use Rattle.register.specs.Limits.{mw_within}
use Rattle.register.specs.PeriodRows.{with_ntc, row_within}
use Rattle.register.proofs.period_table.PeriodTable.post_ntc.Goals as goal

pub invariant_of-self : goal.invariant_of-self
invariant_of-self c =
    let self = c.args.self.now in
    let d = c.args.direction in
    let m = c.in_ok-ntc.ntc in
    let few : mw_within m ≡ true = search rules in
    record { within = pass_change row_within (with_ntc d m) (ntc_keeps d m few) self.rows c.place.result _ _ c.post_ntc.ensures self.within }
