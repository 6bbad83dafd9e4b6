-- What is posted within the limits keeps a row within them.
use Rattle.std.proofs.Common.{◌≡◌, true, arith}
use Rattle.std.proofs.lemmas.Bool.Decides.{nat_tests}
use Rattle.energy.specs.declared.direction.Direction.{Direction}
use Rattle.energy.specs.declared.direction.Direction.TheVariants.{NorthSouth, SouthNorth}
use Rattle.energy.specs.declared.unit.Mw.{Mw}
use Rattle.energy.specs.declared.unit.Rate.{Rate}
use Rattle.register.specs.Limits.{mw_within, rate_within}
use Rattle.register.specs.PeriodRows.{with_ntc, with_rate, row_within}
use Rattle.register.specs.declared.period_row.PeriodRow.{PeriodRow}

pub ntc_keeps : (d : Direction) (m : Mw) → mw_within m ≡ true → (x : PeriodRow) → row_within x ≡ true → row_within (with_ntc d m x) ≡ true
ntc_keeps NorthSouth m h x e = grind (arith, nat_tests)
ntc_keeps SouthNorth m h x e = grind (arith, nat_tests)

pub rate_keeps : (u : Rate) → rate_within u ≡ true → (x : PeriodRow) → row_within x ≡ true → row_within (with_rate u x) ≡ true
rate_keeps u h x e = grind (arith, nat_tests)
