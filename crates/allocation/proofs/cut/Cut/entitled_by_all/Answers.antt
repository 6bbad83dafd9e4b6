use Rattle.std.proofs.Common.{refl, ◌∙◌, rules, arith}
use Rattle.energy.specs.Grids.{figure_at}
use Rattle.allocation.proofs.Granting.{award_is}
use Rattle.allocation.proofs.Sharing.{claims_small}
use Rattle.allocation.proofs.cut.Cut.entitled_by_all.Goals as goal

pub share-requires-clause-small : goal.share-requires-clause-small
share-requires-clause-small g c =
    let t = c.args.self.now.table.now in
    claims_small _ t.entitlement (omega arith) (λ k _. omega (arith, t.entitled k))

pub returns : goal.returns
returns g c =
    let t = c.args.self.now.table.now in
    c.share.ensures ∙ award_is (g.R.RationingRule.awards c.args.self.now.rule.now) t.ntc t.senders t.entitlement t.ntc.0 (figure_at t.entitlement) (search rules) refl (λ k h. refl)
