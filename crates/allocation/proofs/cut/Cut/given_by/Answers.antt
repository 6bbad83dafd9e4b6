use Rattle.std.proofs.Common.{[], get_or, refl, ◌∙◌, rules, arith}
use Rattle.allocation.specs.Told.{grid_at}
use Rattle.allocation.proofs.Granting.{award_is}
use Rattle.allocation.proofs.Sharing.{claims_small}
use Rattle.allocation.proofs.cut.Cut.given_by.Goals as goal

pub share-requires-clause-small : goal.share-requires-clause-small
share-requires-clause-small g c =
    let t = c.args.self.now.table.now in
    claims_small _ (get_or t.trade c.args.i []) (omega arith) (λ j _. omega (arith, t.smalltrades c.args.i j))

pub returns : goal.returns
returns g c =
    let t = c.args.self.now.table.now in
    c.share.ensures ∙ award_is (g.R.RationingRule.awards c.args.self.now.rule.now) c.args.grant t.receivers (get_or t.trade c.args.i []) c.args.grant.0 (grid_at t.trade c.args.i) (search rules) refl (λ k h. refl)
