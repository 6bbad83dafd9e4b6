use Rattle.std.proofs.Common.{length, arith, rules}
use Rattle.std.proofs.lemmas.List.FromFn.{fill_by_all}
use Rattle.energy.specs.Units.{kwh}
use Rattle.rationing.specs.Running.{step_at}
use Rattle.rationing.specs.Stepping.{claimed_within}
use Rattle.rationing.proofs.running_rule.RunningRuleDividing.divide.Goals as goal

-- the running sum never passes the sum of the claims
pub overflow_add-claimed : goal.overflow_add-claimed
overflow_add-claimed c =
    let within = claimed_within c.args.uncovered.claims.now c.loop-i.i c.loop-i-test.true in
    search rules

pub returns : goal.returns
returns c =
    let claims = c.args.uncovered.claims.now in
    fill_by_all (step_at c.args.uncovered.shortfall.amount.0 claims) c.loop-i.out (length claims) (kwh 0) (omega arith)
    (λ k h. c.loop-i.invariant.2 k (omega arith))
