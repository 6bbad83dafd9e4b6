use Rattle.std.proofs.Common.{ℕ, ◌≤◌, sym, subst}
use Rattle.allocation.proofs.table.Table.north_south.Goals as goal

pub invariant_of-result-clause-entitled : goal.invariant_of-result-clause-entitled
invariant_of-result-clause-entitled c = subst (λ (row : ℕ → ℕ). (i : ℕ) → row i ≤ 79992000) (sym c.half_hours.ensures) c.requires.entitled

pub returns : goal.returns
returns c = cc
