use Rattle.std.proofs.Common.{◌≡◌, ℕ, ◌<◌, List, [], ap, ◌∙◌, rules, arith}
use Rattle.energy.specs.declared.unit.Kwh.{Kwh}
use Rattle.energy.specs.Grids.{figure_at}
use Rattle.allocation.specs.Allocation.{award}
use Rattle.allocation.specs.Told.{grid_at}
use Rattle.allocation.proofs.Making.{made_at}
use Rattle.allocation.proofs.cut.Cut.allocations.Goals as goal

pub returns : goal.returns
returns g c i j h k =
    let t = c.args.self.now.table.now in
    let rule = g.R.RationingRule.awards c.args.self.now.rule.now in
    let grants = c.granted_by_all-grants.result in
    let row = made_at c.from_fn.ensures.items (λ (m : ℕ) (xs : List Kwh). m < t.senders → figure_at xs ≡ award rule (figure_at grants m) t.receivers (grid_at t.trade m)) (λ m y q p. search rules) i [] (omega arith) h in
    ap (λ (f : ℕ → ℕ). f j) row ∙ ap (λ (a : ℕ). award rule a t.receivers (grid_at t.trade i) j) (c.granted_by_all-grants.ensures i (omega arith))
