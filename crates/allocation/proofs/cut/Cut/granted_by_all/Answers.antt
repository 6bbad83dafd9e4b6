use Rattle.std.proofs.Common.{ℕ, ap, arith}
use Rattle.allocation.proofs.Bounds.{sound_table}
use Rattle.allocation.proofs.Granting.{granted_most}
use Rattle.allocation.proofs.cut.Cut.granted_by_all.Goals as goal

pub added-requires : goal.added-requires
added-requires g c k h =
    let law = g.met.R.RationingRule.quota c.args.self.now.rule.now in
    omega (arith, c.kept_by_all-held.ensures k h, ap (λ (row : ℕ → ℕ). row k) c.awarded_of_rest.ensures, granted_most law (sound_table c.args.self.now.table.now) c.args.self.now.against.0 k)

pub returns : goal.returns
returns g c k h = omega (arith, c.kept_by_all-held.ensures k h, ap (λ (row : ℕ → ℕ). row k) c.awarded_of_rest.ensures, c.added.ensures k h)
