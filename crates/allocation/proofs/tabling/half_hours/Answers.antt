use Rattle.std.proofs.Common.{refl, rules, arith}
use Rattle.energy.specs.declared.unit.Mw.{Mw}
use Rattle.energy.specs.Units.{half_hour, mw}
use Rattle.allocation.proofs.Making.{row_mapped}
use Rattle.allocation.proofs.tabling.half_hours.Goals as goal

pub returns : goal.returns
returns c = row_mapped c.map.ensures.items (λ (m : Mw). (half_hour m).0) (λ x y q w. search rules) (mw 0) refl (omega arith)
