use Rattle.std.proofs.Common.{◌≡◌, ℕ, ◌+◌, ◌<◌, min, subst, rules}
use Rattle.energy.specs.declared.unit.Kwh.{Kwh}
use Rattle.energy.specs.Grids.{figure_at}
use Rattle.energy.specs.Units.{kwh}
use Rattle.allocation.specs.Allocation.{matched, unmatched}
use Rattle.allocation.specs.Tables.{way_of}
use Rattle.allocation.proofs.Making.{made_at}
use Rattle.allocation.proofs.cut.Cut.kept_by_all.Goals as goal

pub returns : goal.returns
returns g c =
    let w = way_of c.args.self.now.table.now in
    let first = c.entitled_by_all-first.result in
    subst (λ (row : ℕ → ℕ). (k : ℕ) → k < 16 → figure_at c.from_fn.result k ≡ matched w k + min (unmatched w k) (row k)) c.entitled_by_all-first.ensures
    (λ k. made_at c.from_fn.ensures.items (λ (i : ℕ) (e : Kwh). e.0 ≡ matched w i + min (unmatched w i) (figure_at first i)) (λ i y q p. search rules) k (kwh 0))
