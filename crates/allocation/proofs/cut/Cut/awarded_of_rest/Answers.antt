use Rattle.std.proofs.Common.{◌∙◌, rules, arith}
use Rattle.allocation.specs.Allocation.{lacking, left}
use Rattle.allocation.specs.Tables.{way_of}
use Rattle.allocation.proofs.Bounds.{sound_table}
use Rattle.allocation.proofs.Granting.{award_is, short_is, short_small}
use Rattle.allocation.proofs.Summing.{sum_front}
use Rattle.allocation.proofs.cut.Cut.awarded_of_rest.Goals as goal

pub share-requires-clause-small : goal.share-requires-clause-small
share-requires-clause-small g c =
    let t = c.args.self.now.table.now in
    omega (arith, sum_front t.senders c.lacking_by_all-short.result, short_small (g.met.R.RationingRule.quota c.args.self.now.rule.now) (sound_table t) c.requires c.lacking_by_all-short.ensures)

pub returns : goal.returns
returns g c =
    let t = c.args.self.now.table.now in
    let w = way_of t in
    let rule = g.R.RationingRule.awards c.args.self.now.rule.now in
    c.share.ensures ∙ award_is rule c.rest.result t.senders c.lacking_by_all-short.result (left rule w c.args.self.now.against.0) (lacking rule w) (search rules) c.rest.ensures
    (short_is (g.met.R.RationingRule.quota c.args.self.now.rule.now) (sound_table t) c.requires c.lacking_by_all-short.ensures)
