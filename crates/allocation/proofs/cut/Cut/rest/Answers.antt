use Rattle.std.proofs.Common.{arith}
use Rattle.allocation.proofs.Bounds.{sound_table}
use Rattle.allocation.proofs.Granting.{held_small, held_sum, held_within}
use Rattle.allocation.proofs.Summing.{sum_front, front_small}
use Rattle.allocation.proofs.cut.Cut.rest.Goals as goal

pub sum_of-requires : goal.sum_of-requires
sum_of-requires g c =
    let t = c.args.self.now.table.now in
    front_small t.senders c.args.held.now t.sending (held_small (g.met.R.RationingRule.quota c.args.self.now.rule.now) (sound_table t) c.requires)

pub rest_of-requires-clause-within : goal.rest_of-requires-clause-within
rest_of-requires-clause-within g c =
    let t = c.args.self.now.table.now in
    omega (arith, sum_front t.senders c.args.held.now, held_within (g.met.R.RationingRule.quota c.args.self.now.rule.now) (sound_table t) c.requires c.args.self.now.against.0 c.args.self.now.covered)

pub returns : goal.returns
returns g c =
    let t = c.args.self.now.table.now in
    omega (arith, sum_front t.senders c.args.held.now, held_sum (g.met.R.RationingRule.quota c.args.self.now.rule.now) (sound_table t) c.requires)
