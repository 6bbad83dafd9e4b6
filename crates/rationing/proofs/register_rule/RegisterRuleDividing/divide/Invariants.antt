use Rattle.std.proofs.Common.{◌≡◌, ◌++◌, take, drop}
use Rattle.rationing.specs.Register.{handed, spare}
use Rattle.rationing.proofs.register_rule.RegisterRuleDividing.divide.Given as goal

abbrev pub invariant-loop-i : goal.invariant-loop-i
invariant-loop-i l =
    let share = handed l.shortfall.amount.0 l.shortfall.sum.0 in
    take l.i l.out ++ share l.left (drop l.i l.claims) ≡ share (spare l.shortfall.amount.0 l.claims) l.claims
