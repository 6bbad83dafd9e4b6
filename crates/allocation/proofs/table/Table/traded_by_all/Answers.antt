use Rattle.std.proofs.Common.{◌≡◌, ℕ, rules}
use Rattle.energy.specs.declared.unit.Kwh.{Kwh}
use Rattle.energy.specs.Units.{kwh}
use Rattle.allocation.specs.Allocation.{traded}
use Rattle.allocation.specs.Tables.{way_of}
use Rattle.allocation.proofs.Making.{made_at}
use Rattle.allocation.proofs.table.Table.traded_by_all.Goals as goal

pub returns : goal.returns
returns c k = made_at c.from_fn.ensures.items (λ (i : ℕ) (e : Kwh). e.0 ≡ traded (way_of c.args.self.now) i) (λ i y q w. search rules) k (kwh 0)
