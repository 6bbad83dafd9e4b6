use Rattle.register.proofs.Passing.{pass_change}
use Rattle.register.specs.PeriodRows.{with_service, row_within}
use Rattle.register.proofs.period_table.PeriodTable.set_service.Goals as goal

pub invariant_of-self : goal.invariant_of-self
invariant_of-self c =
    let self = c.args.self.now in
    record { within = pass_change row_within (with_service c.args.on) (λ _ e. e) self.rows c.place.result _ _ c.set_service.ensures self.within }
