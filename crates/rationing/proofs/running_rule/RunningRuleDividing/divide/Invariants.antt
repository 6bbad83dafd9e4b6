use Rattle.std.proofs.Common.{◌≡◌, ℕ, ◌<◌, get_or, take}
use Rattle.energy.specs.Totals.{sum_kwh}
use Rattle.energy.specs.Units.{kwh}
use Rattle.rationing.specs.Running.{up_to, step_at}
use Rattle.rationing.proofs.running_rule.RunningRuleDividing.divide.Given as goal

abbrev pub invariant-loop-i : goal.invariant-loop-i
invariant-loop-i l = (l.claimed ≡ sum_kwh (take l.i l.claims)) × (l.before ≡ up_to l.shortfall.amount.0 l.claims l.i) × ((k : ℕ) → k < l.i → get_or l.out k (kwh 0) ≡ step_at l.shortfall.amount.0 l.claims k)
